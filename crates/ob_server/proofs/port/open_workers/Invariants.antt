use Rattle.std.proofs.Common.{◌≡◌, ◌≤◌, ◌+◌, length, map}
use Rattle.std.specs.Vec.{vec_capacity}
use Rattle.ob_server.specs.Port.{AreReady}
use Rattle.ob_server.specs.Together.{AreSplit}
use Rattle.ob_server.specs.Working.{Counts}
use Rattle.ob_server.proofs.port.open_workers.Given as goal

abbrev pub invariant-loop : goal.invariant-loop
invariant-loop g l = record {
  ready : AreReady g.P.D.Door.faults g.P.D.Door.handed g.P.D.Door.returned g.P.D.Door.visits g.C.Clock.given g.C.Clock.pace g.C.Clock.faults (g.C.Clock.pace l.fn.timed.clock.now) l.workers.items;
  split : AreSplit l.fn.pass l.pass (map (λ w. w.pass) l.workers.items);
  left : length l.pass.numbers + l.counter ≡ length l.fn.pass.numbers;
  room : vec_capacity l.workers ≡ l.count;
  count : length l.workers.items ≡ l.counter;
  opened : Counts (g.P.Port.opened l.fn.timed.port.now) (length l.workers.items) (g.P.Port.opened l.timed.port.now);
  returned : g.P.Port.returned l.timed.port.now ≡ g.P.Port.returned l.fn.timed.port.now;
  doors : g.P.Port.doors l.timed.port.now ≡ g.P.Port.doors l.fn.timed.port.now;
  listens : g.P.Port.listens l.timed.port.now ≡ g.P.Port.listens l.fn.timed.port.now;
  given : g.C.Clock.given l.timed.clock.now ≡ g.C.Clock.given l.fn.timed.clock.now;
  pace : g.C.Clock.pace l.timed.clock.now ≡ g.C.Clock.pace l.fn.timed.clock.now;
  twins : g.C.Clock.twins l.timed.clock.now ≡ g.C.Clock.twins l.fn.timed.clock.now;
  door_faults : g.P.Port.faults l.fn.timed.port.now ≤ g.P.Port.faults l.timed.port.now;
  clock_faults : g.C.Clock.faults l.fn.timed.clock.now ≤ g.C.Clock.faults l.timed.clock.now;
  same_port : l.timed.port.ghost_name ≡ l.fn.timed.port.ghost_name;
  same_clock : l.timed.clock.ghost_name ≡ l.fn.timed.clock.ghost_name;
}
