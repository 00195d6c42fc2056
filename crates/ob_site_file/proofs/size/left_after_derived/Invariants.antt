use Rattle.std.proofs.Common.{◌≡◌, ◌-◌, ℕ, List, Some, map, take}
use Rattle.std.specs.Option.{option_copied}
use Rattle.ob_object.specs.Object.{Object, in_row}
use Rattle.ob_contracts.specs.Found.{found}
use Rattle.ob_contracts.specs.Inherit.{overridden}
use Rattle.ob_site_file.specs.Sizes.{row_count, stood}
use Rattle.ob_site_file.proofs.size.left_after_derived.Given as goal

abbrev pub invariant-loop-child : goal.invariant-loop-child
invariant-loop-child l = (ss : List Object) → ((k : List ℕ) → found l.above.names.now k ≡ overridden (Some k) ss)
    → l.left ≡ l.most - row_count l.above.library.now (option_copied l.above.gives) ss (in_row (map stood (take l.child-index l.derived)))
