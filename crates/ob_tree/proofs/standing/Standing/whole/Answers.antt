use Rattle.std.proofs.Common.{◌∙◌}
use Rattle.std.proofs.lemmas.Result.{IfOk-weaker}
use Rattle.std.specs.Option.{option_copied}
use Rattle.ob_tree.specs.Standings.{context}
use Rattle.ob_tree.proofs.Walking.{told_the_same}
use Rattle.ob_tree.proofs.standing.Standing.whole.Goals as goal

pub returns-clause-whole : goal.returns-clause-whole
returns-clause-whole g c =
    IfOk-weaker c.effective.result _ _
    (λ made is. is ∙ told_the_same (context c.args.self.now) c.args.object (option_copied c.words.result) c.words.ensures) c.effective.ensures.made
