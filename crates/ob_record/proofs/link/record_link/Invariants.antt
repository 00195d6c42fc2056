use Rattle.std.proofs.Common.{◌≡◌, ◌≤◌}
use Rattle.ob_io.specs.Links.{inlet}
use Rattle.ob_record.proofs.LinkLaws.{Going}
use Rattle.ob_record.proofs.link.record_link.Given as goal

abbrev pub invariant-pieces : goal.invariant-pieces
invariant-pieces g l = record {
  going : Going g.M.Machine.act l.fn.machine l.machine (inlet (g.L.Link.left l.fn.link) (g.L.Link.taken l.fn.link)) (inlet (g.L.Link.left l.link) (g.L.Link.taken l.link)) l.framer l.room
      (g.L.Link.held l.fn.link) (g.L.Link.held l.link) (g.C.Clock.given l.fn.clock) (g.C.Clock.given l.clock);
  pace : g.C.Clock.pace l.clock ≡ g.C.Clock.pace l.fn.clock;
  reads : g.L.Link.read_faults l.fn.link ≤ g.L.Link.read_faults l.link;
  writes : g.L.Link.write_faults l.fn.link ≤ g.L.Link.write_faults l.link;
  clocks : g.C.Clock.faults l.fn.clock ≤ g.C.Clock.faults l.clock;
}

abbrev pub decreases-pieces : goal.decreases-pieces
decreases-pieces g l = l.room
