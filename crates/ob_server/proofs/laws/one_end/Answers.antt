use Rattle.ob_server.proofs.EndLemmas.{ends_so}
use Rattle.ob_server.proofs.laws.one_end.Goals as goal

pub returns : goal.returns
returns c = ends_so c.framing_is_one.ensures
