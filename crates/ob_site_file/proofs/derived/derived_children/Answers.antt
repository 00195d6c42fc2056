use Rattle.std.proofs.Common.{ℕ, List, ◌++◌, Option, map, ap, ◌∙◌}
use Rattle.ob_site_rules.specs.Shown.{derived, derived_at}
use Rattle.ob_site_file.specs.declared.derived.Derived.{Derived}
use Rattle.ob_site_file.specs.Sizes.{stood, plain}
use Rattle.ob_site_file.proofs.derived.derived_children.Goals as goal

pub returns-in_ok-put_derived-in-Some : goal.returns-in_ok-put_derived-in-Some
returns-in_ok-put_derived-in-Some c = λ plan s k.
    c.in_ok-put_derived-in-Some.ensures plan s k
    ∙ ap (λ (l : List Derived). map stood l ++ map plain (derived_at plan s c.in-Some.path.now)) c.new-list.ensures.items
    ∙ ap (λ (q : Option (List ℕ)). map plain (derived plan s q)) c.in-Some.ensures
