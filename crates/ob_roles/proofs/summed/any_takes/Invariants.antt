use Rattle.std.proofs.Common.{◌≡◌, drop}
use Rattle.std.specs.List.{list_any}
use Rattle.ob_roles.specs.Summed.{takes_given}
use Rattle.ob_roles.proofs.summed.any_takes.Given as goal

abbrev pub invariant-loop-object : goal.invariant-loop-object
invariant-loop-object l = list_any (λ o. takes_given o.head) (drop l.object-index l.objects) ≡ list_any (λ o. takes_given o.head) l.objects
