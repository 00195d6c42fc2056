use Rattle.ob_server.proofs.TogetherLemmas.{whole_again}
use Rattle.ob_server.proofs.passes.joined_is_whole.Goals as goal

pub returns : goal.returns
returns g c = λ first left last before after is split goes joined.
    whole_again g.M.Machine.act c.args.desk.now.opening first left last before after is split goes joined
