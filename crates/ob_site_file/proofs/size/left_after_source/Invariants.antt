use Rattle.std.proofs.Common.{List}
use Rattle.ob_object.specs.Object.{Object}
use Rattle.ob_site_file.specs.Sizes.{HasNames}
use Rattle.ob_site_file.proofs.Counted.{Up}
use Rattle.ob_site_file.proofs.size.left_after_source.Given as goal

abbrev pub invariant-loop-child : goal.invariant-loop-child
invariant-loop-child l = (before : List Object) → HasNames l.initial.there before → Up l.most before l.child-items l.child-index l.left l.there
