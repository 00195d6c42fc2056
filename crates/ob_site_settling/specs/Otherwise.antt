-- Which own nodes a watch shows otherwise with another library. Source: oBIX 1.1, chapters 7 (Contracts) and 12 (Watches).
use Rattle.std.specs.Prelude.{◌≡◌, ℕ, ◌<◌, false, List, [], All, AllPairs, Contains, Some, None}
use Rattle.ob_object.specs.Object.{Object, parts}
use Rattle.ob_contracts.specs.Inherit.{Contracts}
use Rattle.ob_site_rules.specs.Build.{Path}
use Rattle.ob_site_rules.specs.Shown.{dressed}
use Rattle.ob_site_rules.specs.declared.plan.Plan.{Plan}
use Rattle.ob_site_rules.specs.State.{State}
use Rattle.ob_shown_laws.specs.Alike.{row}
use Rattle.ob_shown_laws.specs.Changed.{PathsDiffer}
use Rattle.ob_tree.specs.Laid.{paths}
use Rattle.ob_tree.specs.Paths.{place_of, first_twice}
use Rattle.ob_tree.specs.Shown.{part_at}
use Rattle.ob_shown_laws.specs.OwnTree.{own_shown_at}
use Rattle.ob_step_laws.specs.Defaults.{with_library, is_same}

-- the object of a number is a node of which a watch shows something else with another library
abbrev pub IsOtherwise : Plan → State → Contracts → ℕ → Type 0
IsOtherwise plan s new n = (p : Path) × (place_of p (paths s.tree) ≡ Some n) × (is_same plan s (with_library new s) p ≡ false)

-- These are the numbers of all such nodes below one, each once, in document order.
pub record AreOtherwiseBelow (plan : Plan) (s : State) (new : Contracts) (end : ℕ) (ns : List ℕ) : Type 0 where
  pub differ : All (λ n. (n < end) × IsOtherwise plan s new n) ns
  pub all : (n : ℕ) → n < end → IsOtherwise plan s new n → Contains ns n
  pub in_order : AllPairs (λ n m. n < m) ns

-- and these all of them
abbrev pub AreOtherwise : Plan → State → Contracts → List ℕ → Type 0
AreOtherwise plan s new ns = AreOtherwiseBelow plan s new (parts s.tree) ns

-- The own object of a number, no two nodes round which have one path, and what is shown of it by a library and by the state's.
pub record AreShown (plan : Plan) (s : State) (old : Contracts) (n : ℕ) (own before after : Object) : Type 0 where
  pub differ : PathsDiffer (row (dressed plan s))
  pub once : first_twice [] (paths s.tree) ≡ None
  pub is : part_at n s.tree ≡ Some own
  pub before_is : Some before ≡ own_shown_at plan (with_library old s) n
  pub after_is : Some after ≡ own_shown_at plan s n
