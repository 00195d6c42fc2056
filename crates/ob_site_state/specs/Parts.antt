-- Parts of the definitions of writes, each for one object.
use Rattle.std.specs.Prelude.{List, filter_map, option_map}
use Rattle.ob_object.specs.Object.{Object}
use Rattle.ob_object.specs.Paths.{node_path}
use Rattle.ob_contracts.specs.Inherit.{Contracts}

-- those of some objects that are nodes, each under its path
abbrev pub contracts_in : List Object → Contracts
contracts_in os = filter_map (λ o. option_map (λ p. (p, o)) (node_path o.head)) os
