use Rattle.std.proofs.Common.{◌≡◌, map, take}
use Rattle.ob_contracts.specs.Found.{lent}
use Rattle.ob_contracts.specs.Inherit.{bare}
use Rattle.ob_contracts.specs.Shown.{finish}
use Rattle.ob_contracts.proofs.completing.copies.Given as goal

abbrev pub invariant-loop-object : goal.invariant-loop-object
invariant-loop-object l = l.made.items ≡ map (λ o. finish l.defaults (bare o)) (take l.object-index (lent l.objects))
