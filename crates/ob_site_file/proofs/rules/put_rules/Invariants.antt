use Rattle.std.proofs.Common.{List}
use Rattle.ob_site_rules.specs.Loading.{Part}
use Rattle.ob_site_file.specs.Sought.{Sees}
use Rattle.ob_site_file.proofs.Ruled.{RulesPut}
use Rattle.ob_site_file.proofs.rules.put_rules.Given as goal

abbrev pub invariant-loop-item : goal.invariant-loop-item
invariant-loop-item l = (ps : List Part) → Sees l.nodes ps → RulesPut ps l.items l.item-index l.initial.rules.items l.rules.items
