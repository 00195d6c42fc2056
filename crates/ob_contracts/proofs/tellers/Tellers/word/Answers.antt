use Rattle.std.proofs.Common.{ap, ◌∙◌}
use Rattle.ob_contracts.specs.Tellers.{Telling, word_for}
use Rattle.ob_contracts.proofs.Taught.{word_is}
use Rattle.ob_contracts.proofs.tellers.Tellers.word.Goals as goal

pub returns : goal.returns
returns c =
    c.get.ensures.value ∙ word_is c.self.inside.names.entries c.args.name.now ∙ ap (λ (t : Telling). word_for t c.args.name.now) c.self.view_is
