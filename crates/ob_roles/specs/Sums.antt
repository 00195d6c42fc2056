-- What becomes of a library to which contracts are added in order.
use Rattle.std.specs.Prelude.{◌≡◌, ◌⊎◌, List, Option, Some, None, option_map, Result, Ok, Err}
use Rattle.std.specs.List.{filter_map}
use Rattle.ob_object.specs.Object.{Object}
use Rattle.ob_object.specs.Paths.{node_path}
use Rattle.ob_contracts.specs.Adding.{added}
use Rattle.ob_site_rules.specs.Build.{Path}
use Rattle.ob_contracts.specs.Inherit.{Contracts}
use Rattle.ob_contracts.specs.declared.adding.LibFault.{LibFault}
use Rattle.ob_contracts.specs.declared.adding.LibFault.TheVariants.{Memory}

-- the nodes among objects, each under its path
abbrev pub nodes_of : List Object → Contracts
nodes_of os = filter_map (λ o. option_map (λ p. (p, o)) (node_path o.head)) os

-- the result is the one expected, or there was no memory
abbrev pub Gives : Result Contracts LibFault → Result Contracts LibFault → Type 0
Gives (Ok lib) expected = expected ≡ Ok lib
Gives (Err fault) expected = (expected ≡ Err fault) ⊎ (fault ≡ Memory)

-- what an object that has that path, or none, makes of a library
abbrev pub IsAddedIf : Contracts → Contracts → Object → Option Path → Result (Unit {0}) LibFault → Type 0
IsAddedIf old new o None (Ok _) = new ≡ old
IsAddedIf old new o None (Err fault) = fault ≡ Memory
IsAddedIf old new o (Some p) (Ok _) = added old p o ≡ Ok new
IsAddedIf old new o (Some p) (Err fault) = (added old p o ≡ Err fault) ⊎ (fault ≡ Memory)
