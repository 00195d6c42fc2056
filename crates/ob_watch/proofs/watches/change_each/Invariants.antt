use Rattle.std.proofs.Common.{◌≡◌, map}
use Rattle.ob_watch.specs.Items.{changed_by}
use Rattle.ob_watch.specs.Tables.{watching}
use Rattle.ob_watch.proofs.Lists.{altered}
use Rattle.ob_watch.proofs.watches.change_each.Given as goal

abbrev pub invariant-loop-place : goal.invariant-loop-place
invariant-loop-place g l = l.held.entries ≡ altered (λ w. watching (map (changed_by (g.C.Change.made l.change)) w.items) w) l.place l.fn.held.entries
