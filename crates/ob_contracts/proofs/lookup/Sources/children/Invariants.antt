use Rattle.std.proofs.Common.{◌≡◌, ℕ, List, Some, drop}
use Rattle.ob_contracts.specs.Found.{found}
use Rattle.ob_contracts.specs.Inherit.{or_else, overridden, present}
use Rattle.ob_contracts.specs.Places.{places_of, sources_of}
use Rattle.ob_contracts.proofs.lookup.Sources.children.Given as goal

abbrev pub invariant-loop-place : goal.invariant-loop-place
invariant-loop-place l =
    (n : List ℕ) → or_else (found l.names n) (overridden (Some n) (present (drop l.place (places_of l.self)))) ≡ overridden (Some n) (sources_of l.self)
