use Rattle.std.proofs.Common.{ap, ◌∙◌}
use Rattle.std.specs.Prelude.{option_and_then}
use Rattle.ob_object.specs.Object.{Object, children}
use Rattle.ob_object.specs.WellFormed.{named}
use Rattle.ob_contracts.specs.Inherit.{contract_of}
use Rattle.ob_contracts.proofs.tellers.child_by.Goals as goal

pub returns-in-Some : goal.returns-in-Some
returns-in-Some c =
    c.child.ensures
    ∙ ap (option_and_then (λ (o : Object). named c.args.name.now (children o))) (c.in-Some.ensures ∙ ap (contract_of c.args.library.now) c.as_str.ensures.value)

pub returns-in-None : goal.returns-in-None
returns-in-None c =
    ap (option_and_then (λ (o : Object). named c.args.name.now (children o))) (c.in-None.ensures ∙ ap (contract_of c.args.library.now) c.as_str.ensures.value)
