use Rattle.std.proofs.Common.{List}
use Rattle.ob_object.specs.Object.{Object}
use Rattle.ob_site_file.specs.Sizes.{HasNames}
use Rattle.ob_site_file.proofs.Counted.{Left}
use Rattle.ob_site_file.proofs.size.left_after_missing.Given as goal

abbrev pub invariant-loop-source : goal.invariant-loop-source
invariant-loop-source l = (before : List Object) → HasNames l.initial.there before → Left l.most before l.from l.source-index l.left l.there
