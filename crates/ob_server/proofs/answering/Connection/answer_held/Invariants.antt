use Rattle.std.proofs.Common.{◌≡◌, ◌≤◌, length, option_copied}
use Rattle.ob_server.proofs.AnsweringLemmas.{Holding}
use Rattle.ob_server.proofs.answering.Connection.answer_held.Given as goal

abbrev pub invariant-next : goal.invariant-next
invariant-next g l = record {
  holding : Holding g.A.Answerer.asks (option_copied l.ns) (l.fn.self.answerer.now, l.fn.self.outside.now) (l.self.answerer.now, l.self.outside.now) l.fn.framer l.framer (g.L.Link.held l.fn.self.link.now) (g.L.Link.held l.self.link.now) (g.C.Clock.given l.fn.self.clock.now) (g.C.Clock.given l.self.clock.now);
  pace : g.C.Clock.pace l.self.clock.now ≡ g.C.Clock.pace l.fn.self.clock.now;
  left : g.L.Link.left l.self.link.now ≡ g.L.Link.left l.fn.self.link.now;
  took : g.L.Link.taken l.self.link.now ≡ g.L.Link.taken l.fn.self.link.now;
  reads : g.L.Link.read_faults l.self.link.now ≡ g.L.Link.read_faults l.fn.self.link.now;
  writes : g.L.Link.write_faults l.fn.self.link.now ≤ g.L.Link.write_faults l.self.link.now;
  clocks : g.C.Clock.faults l.fn.self.clock.now ≤ g.C.Clock.faults l.self.clock.now;
  same_answerer : l.self.answerer.ghost_name ≡ l.fn.self.answerer.ghost_name;
  same_outside : l.self.outside.ghost_name ≡ l.fn.self.outside.ghost_name;
  same_link : l.self.link.ghost_name ≡ l.fn.self.link.ghost_name;
  same_clock : l.self.clock.ghost_name ≡ l.fn.self.clock.ghost_name;
}

abbrev pub decreases-next : goal.decreases-next
decreases-next g l = length l.framer.kept
