use Rattle.std.proofs.Common.{ap, ◌∙◌}
use Rattle.std.specs.Prelude.{option_and_then}
use Rattle.ob_contracts.specs.Tellers.{child_by}
use Rattle.ob_contracts.proofs.tellers.Tellers.child.Goals as goal

pub returns-in-Some : goal.returns-in-Some
returns-in-Some c =
    c.child_by.ensures ∙ ap (option_and_then (child_by c.args.library.now c.args.name.now)) c.in-Some.ensures

pub returns-in-None : goal.returns-in-None
returns-in-None c = ap (option_and_then (child_by c.args.library.now c.args.name.now)) c.in-None.ensures
