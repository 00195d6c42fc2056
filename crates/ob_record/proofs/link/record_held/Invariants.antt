use Rattle.std.proofs.Common.{◌≡◌, ◌≤◌, length}
use Rattle.ob_record.proofs.LinkLaws.{Holding}
use Rattle.ob_record.proofs.link.record_held.Given as goal

abbrev pub invariant-next : goal.invariant-next
invariant-next g l = record {
  holding : Holding g.M.Machine.act l.fn.machine l.machine l.fn.framer l.framer (g.L.Link.held l.fn.link) (g.L.Link.held l.link) (g.C.Clock.given l.fn.clock) (g.C.Clock.given l.clock);
  pace : g.C.Clock.pace l.clock ≡ g.C.Clock.pace l.fn.clock;
  left : g.L.Link.left l.link ≡ g.L.Link.left l.fn.link;
  took : g.L.Link.taken l.link ≡ g.L.Link.taken l.fn.link;
  reads : g.L.Link.read_faults l.link ≡ g.L.Link.read_faults l.fn.link;
  writes : g.L.Link.write_faults l.fn.link ≤ g.L.Link.write_faults l.link;
  clocks : g.C.Clock.faults l.fn.clock ≤ g.C.Clock.faults l.clock;
}

abbrev pub decreases-next : goal.decreases-next
decreases-next g l = length l.framer.kept
