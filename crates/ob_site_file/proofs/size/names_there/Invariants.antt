use Rattle.std.proofs.Common.{◌++◌, map, take}
use Rattle.ob_object.specs.Object.{children}
use Rattle.ob_site_file.specs.Sizes.{HasNames, stood}
use Rattle.ob_site_file.proofs.size.names_there.Given as goal

abbrev pub invariant-loop-child : goal.invariant-loop-child
invariant-loop-child l = HasNames l.there (children l.object ++ map stood (take l.child-index l.derived))
