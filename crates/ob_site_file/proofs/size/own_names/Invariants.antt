use Rattle.std.proofs.Common.{take}
use Rattle.ob_site_file.specs.Sizes.{HasNames}
use Rattle.ob_site_file.proofs.size.own_names.Given as goal

abbrev pub invariant-loop-child : goal.invariant-loop-child
invariant-loop-child l = HasNames l.there (take l.child-index l.child-items)
