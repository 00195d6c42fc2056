use Rattle.std.proofs.Common.{◌≡◌, drop}
use Rattle.ob_contracts.specs.Inherit.{Contracts}
use Rattle.ob_site_rules.specs.Roles.{worded_contracts}
use Rattle.ob_roles.specs.Sums.{nodes_of}
use Rattle.ob_roles.specs.Few.{brief_contracts}
use Rattle.ob_roles.specs.Kinds.{Tells}
use Rattle.ob_roles.specs.Tables.{Holds}
use Rattle.ob_roles.proofs.worded.put_nodes.Given as goal

-- a library that the table holds now, from which the nodes that are left make the one expected
abbrev pub invariant-loop-object : goal.invariant-loop-object
invariant-loop-object l = (whole lib : Contracts) → Tells l.known whole → Holds l.initial.table (brief_contracts whole lib) → (now : Contracts)
    × (Holds l.table (brief_contracts whole now) × (worded_contracts now (nodes_of (drop l.object-index l.objects)) ≡ worded_contracts lib (nodes_of l.objects)))
