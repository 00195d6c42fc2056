use Rattle.std.proofs.Common.{◌≡◌}
use Rattle.ob_watch.specs.Items.{changed_by}
use Rattle.ob_watch.proofs.Lists.{altered}
use Rattle.ob_watch.proofs.items.change_each.Given as goal

abbrev pub invariant-loop-place : goal.invariant-loop-place
invariant-loop-place g l = l.held.entries ≡ altered (changed_by (g.C.Change.made l.change)) l.place l.fn.held.entries
