use Rattle.std.proofs.Common.{take}
use Rattle.ob_watching.specs.Tables.{numbers_of}
use Rattle.ob_watch.specs.Tables.{lapsed_at, room_beside}
use Rattle.ob_site_watches.specs.Putting.{OfHeld}
use Rattle.ob_site_watches.proofs.Grown.{IsOnTheWay}
use Rattle.ob_site_watches.proofs.adding.put_all.Given as goal

abbrev pub invariant-loop-a : goal.invariant-loop-a
invariant-loop-a g l =
    OfHeld l.adding.number l.fn.watches
    (IsOnTheWay l.state (numbers_of (lapsed_at l.adding.moment l.fn.watches).watches) (room_beside l.adding.number (lapsed_at l.adding.moment l.fn.watches).watches) (take l.a-index l.a-items) l.adding.number l.fn.watches l.watches l.fn.undo l.undo l.entries.items)
