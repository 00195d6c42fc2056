use Rattle.std.proofs.Common.{List}
use Rattle.ob_site_rules.specs.Loading.{Part}
use Rattle.ob_roles.proofs.PartRows.{Numbers}
use Rattle.ob_site_file.specs.Sought.{Sees}
use Rattle.ob_site_file.proofs.Ruled.{RulesLeft}
use Rattle.ob_site_file.proofs.rules.bad_rule.Given as goal

abbrev pub invariant-loop-item : goal.invariant-loop-item
invariant-loop-item l = record {
  numbers : Numbers l.items.number l.number l.items.objects.now l.item-index;
  left : (ps : List Part) → Sees l.nodes ps → RulesLeft ps l.items.number l.items.objects.now l.item-index l.sources l.number;
}
