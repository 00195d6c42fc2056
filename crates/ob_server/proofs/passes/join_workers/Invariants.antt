use Rattle.std.proofs.Common.{◌≡◌, ◌++◌, List, length}
use Rattle.ob_server.specs.GivenBack.{GivenBack, port_told, clock_told}
use Rattle.ob_server.proofs.passes.join_workers.Given as goal

abbrev pub invariant-loop-worker : goal.invariant-loop-worker
invariant-loop-worker g l = record {
  done : List _;
  all : l.fn.workers.items ≡ l.workers.items ++ done;
  back : GivenBack g.M.Machine.act g.P.D.Door.faults g.P.D.Door.handed g.P.D.Door.returned g.P.D.Door.visits g.P.D.Door.is_closed g.C.Clock.given g.C.Clock.faults
      l.desk.opening done l.fn.pass l.pass
      (port_told (g.P.Port.faults l.fn.port) (g.P.Port.opened l.fn.port) (g.P.Port.returned l.fn.port) (g.P.Port.listens l.fn.port) (g.P.Port.doors l.fn.port))
      (port_told (g.P.Port.faults l.port) (g.P.Port.opened l.port) (g.P.Port.returned l.port) (g.P.Port.listens l.port) (g.P.Port.doors l.port))
      (clock_told (g.C.Clock.faults l.fn.clock) (g.C.Clock.given l.fn.clock) (g.C.Clock.pace l.fn.clock) (g.C.Clock.twins l.fn.clock))
      (clock_told (g.C.Clock.faults l.clock) (g.C.Clock.given l.clock) (g.C.Clock.pace l.clock) (g.C.Clock.twins l.clock));
}

abbrev pub decreases-loop-worker : goal.decreases-loop-worker
decreases-loop-worker g l = length l.workers.items
