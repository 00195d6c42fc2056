use Rattle.std.proofs.Common.{◌≡◌, []}
use Rattle.ob_object.specs.Object.{children}
use Rattle.ob_contracts.specs.Found.{lent}
use Rattle.ob_contracts.specs.Inherit.{first_given, missing}
use Rattle.ob_roles.specs.Summed.{HasNames}
use Rattle.ob_roles.proofs.Named.{Missing}
use Rattle.ob_roles.proofs.summed.sum_of.Given as goal

abbrev pub invariant-loop-source : goal.invariant-loop-source
invariant-loop-source l =
    Missing l.source-items l.source-index (missing [] (lent l.source-items)) (children l.sum)
    × (l.sum.head.of ≡ first_given (λ s. s.head.of) (lent l.source-items)) × HasNames l.there l.sum
