use Rattle.std.proofs.Common.{[], take}
use Rattle.ob_contracts.specs.Inherit.{Contracts}
use Rattle.ob_site_rules.specs.Roles.{worded_contracts}
use Rattle.ob_roles.specs.Few.{brief_contracts}
use Rattle.ob_roles.specs.Kinds.{Tells}
use Rattle.ob_roles.specs.Tables.{Holds}
use Rattle.ob_roles.proofs.worded.standard_table.Given as goal

abbrev pub invariant-loop-contract : goal.invariant-loop-contract
invariant-loop-contract l = (whole : Contracts) → Tells l.known whole → Holds l.table (brief_contracts whole (worded_contracts [] (take l.contract-index l.contract-items)))

abbrev pub ghosts-standard_by : goal.ghosts-standard_by
ghosts-standard_by a = record { name = a.blank.name; parts = a.blank.parts }
