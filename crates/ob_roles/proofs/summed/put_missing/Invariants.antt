use Rattle.std.proofs.Common.{◌≡◌, filter, take}
use Rattle.ob_object.specs.Object.{children}
use Rattle.ob_contracts.specs.Inherit.{is_new}
use Rattle.ob_roles.specs.Summed.{HasNames}
use Rattle.ob_roles.specs.Worded.{with_more}
use Rattle.ob_roles.proofs.summed.put_missing.Given as goal

abbrev pub invariant-loop-child : goal.invariant-loop-child
invariant-loop-child l = HasNames l.initial.there l.initial.object
    → (l.object ≡ with_more l.initial.object (filter (is_new (children l.initial.object)) (take l.child-index l.child-items))) × HasNames l.there l.object
