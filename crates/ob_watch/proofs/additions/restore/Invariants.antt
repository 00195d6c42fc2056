use Rattle.std.proofs.Common.{◌≡◌, vec_len}
use Rattle.ob_watch.specs.Restoring.{restored}
use Rattle.ob_watch.proofs.additions.restore.Given as goal

abbrev pub invariant-loop-item : goal.invariant-loop-item
invariant-loop-item l = restored l.replaced.items l.items ≡ restored l.fn.replaced.items l.fn.items

abbrev pub decreases-loop-item : goal.decreases-loop-item
decreases-loop-item l = vec_len l.replaced
