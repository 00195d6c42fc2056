use Rattle.std.proofs.Common.{map, take}
use Rattle.ob_roles.specs.SiteParts.{part as site_part}
use Rattle.ob_site_file.specs.Sought.{Sees}
use Rattle.ob_site_file.proofs.nodes.nodes_of.Given as goal

abbrev pub invariant-loop-part : goal.invariant-loop-part
invariant-loop-part l = Sees l.nodes (map site_part (take l.part-index l.parts))
