use Rattle.std.proofs.Common.{None}
use Rattle.ob_object.specs.Object.{parts}
use Rattle.ob_super.proofs.TreeLemmas.{IsCopied}
use Rattle.ob_super.proofs.tree.+copy_bare.Given as goal

abbrev pub decreases-copy_bare : goal.decreases-copy_bare
decreases-copy_bare l = parts l.object.now

abbrev pub invariant-loop-child : goal.invariant-loop-child
invariant-loop-child l = IsCopied l.made (record l.object.head { href = None }) l.child-index l.object
