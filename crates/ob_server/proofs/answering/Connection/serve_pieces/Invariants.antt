use Rattle.std.proofs.Common.{◌≡◌, ◌≤◌, option_copied}
use Rattle.ob_io.specs.Links.{inlet}
use Rattle.ob_server.proofs.AnsweringLemmas.{Going}
use Rattle.ob_server.proofs.answering.Connection.serve_pieces.Given as goal

abbrev pub invariant-pieces : goal.invariant-pieces
invariant-pieces g l = record {
  going : Going g.A.Answerer.asks (option_copied l.ns) (l.fn.self.answerer.now, l.fn.self.outside.now) (l.self.answerer.now, l.self.outside.now) (inlet (g.L.Link.left l.fn.self.link.now) (g.L.Link.taken l.fn.self.link.now)) (inlet (g.L.Link.left l.self.link.now) (g.L.Link.taken l.self.link.now)) l.framer l.room
      (g.L.Link.held l.fn.self.link.now) (g.L.Link.held l.self.link.now) (g.C.Clock.given l.fn.self.clock.now) (g.C.Clock.given l.self.clock.now);
  pace : g.C.Clock.pace l.self.clock.now ≡ g.C.Clock.pace l.fn.self.clock.now;
  reads : g.L.Link.read_faults l.fn.self.link.now ≤ g.L.Link.read_faults l.self.link.now;
  writes : g.L.Link.write_faults l.fn.self.link.now ≤ g.L.Link.write_faults l.self.link.now;
  clocks : g.C.Clock.faults l.fn.self.clock.now ≤ g.C.Clock.faults l.self.clock.now;
  same_answerer : l.self.answerer.ghost_name ≡ l.fn.self.answerer.ghost_name;
  same_outside : l.self.outside.ghost_name ≡ l.fn.self.outside.ghost_name;
  same_link : l.self.link.ghost_name ≡ l.fn.self.link.ghost_name;
  same_clock : l.self.clock.ghost_name ≡ l.fn.self.clock.ghost_name;
}

abbrev pub decreases-pieces : goal.decreases-pieces
decreases-pieces g l = l.room
