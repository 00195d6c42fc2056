use Rattle.std.proofs.Common.{ap, ◌∙◌}
use Rattle.std.specs.Prelude.{option_and_then}
use Rattle.ob_object.specs.declared.head.Head.{Head}
use Rattle.ob_object.specs.Object.{Object}
use Rattle.ob_contracts.proofs.lookup.Looked.display_name.Goals as goal

pub returns-in-Some : goal.returns-in-Some
returns-in-Some c =
    c.display_name.ensures ∙ ap (λ (h : Head). h.facets.display_name) c.head.ensures.value ∙ ap (option_and_then (λ (s : Object). s.head.facets.display_name)) c.in-Some.ensures

pub returns-in-None : goal.returns-in-None
returns-in-None c = ap (option_and_then (λ (s : Object). s.head.facets.display_name)) c.in-None.ensures
