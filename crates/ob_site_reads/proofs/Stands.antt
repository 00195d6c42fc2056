-- What is shown of an own object, from where it stands and what it is with statuses and derived children.
use Rattle.std.proofs.Common.{◌≡◌, ℕ, Option, Some, None, option_map, sym, ap, ◌∙◌}
use Rattle.std.specs.Prelude.{option_and_then}
use Rattle.ob_values.proofs.Lists.{some_same}
use Rattle.ob_object.specs.Object.{Object}
use Rattle.ob_site_rules.specs.Build.{Path}
use Rattle.ob_site_rules.specs.declared.plan.Plan.{Plan}
use Rattle.ob_site_rules.specs.State.{State}
use Rattle.ob_site_rules.specs.Shown.{dressed, shown}
use Rattle.ob_tree.specs.Contexts.{Context, comes_to}
use Rattle.ob_shown_laws.specs.Alike.{row}
use Rattle.ob_shown_laws.specs.Changed.{PathsDiffer}
use Rattle.ob_shown_laws.specs.Own.{derived_own}
use Rattle.ob_tree.specs.Laid.{paths}
use Rattle.ob_tree.specs.Paths.{place_of}
use Rattle.ob_tree.specs.Shown.{part_at, standing_at}
use Rattle.ob_shown_laws.specs.OwnTree.{own_shown_at}
use Rattle.ob_shown_laws.proofs.Owned.{own_trees_tell}

from_part : (plan : Plan) (s : State) (c : Context) (d : Object) (q : Option Object) → Some d ≡ option_map (derived_own plan s) q
    → Some (comes_to c d) ≡ option_map (λ x. comes_to c (derived_own plan s x)) q
from_part plan s c d None e = absurd cc
from_part plan s c d (Some x) e = ap (λ (o : Object). Some (comes_to c o)) (some_same e)

pub stands : (plan : Plan) (s : State) (n : ℕ) (c : Context) (d o : Object) → Some c ≡ standing_at s.library n s.tree
    → Some d ≡ option_map (derived_own plan s) (part_at n s.tree) → o ≡ comes_to c d → Some o ≡ own_shown_at plan s n
stands plan s n c d o at made is =
    ap (λ (x : Object). Some x) is
    ∙ from_part plan s c d (part_at n s.tree) made
    ∙ ap (λ (k : Option Context). option_and_then (λ c. option_map (λ x. comes_to c (derived_own plan s x)) (part_at n s.tree)) k) at

-- and so it is what the site shows at its path
pub shows : (plan : Plan) (s : State) (n : ℕ) (c : Context) (d o : Object) → Some c ≡ standing_at s.library n s.tree
    → Some d ≡ option_map (derived_own plan s) (part_at n s.tree) → o ≡ comes_to c d
    → PathsDiffer (row (dressed plan s)) → (p : Path) → place_of p (paths s.tree) ≡ Some n → shown plan s p ≡ Some o
shows plan s n c d o at made is differ p here =
    (own_trees_tell plan s).shows_own p n differ here ∙ sym (stands plan s n c d o at made is)
