use Rattle.std.proofs.Common.{◌≡◌, ◌≤◌, option_copied}
use Rattle.ob_io.specs.Links.{inlet}
use Rattle.ob_turn.specs.Standing.{mine}
use Rattle.ob_server.specs.Exchange.{had}
use Rattle.ob_server.specs.Passes.{Continues}
use Rattle.ob_server.proofs.ServeLemmas.{Serving}
use Rattle.ob_server.proofs.service.Service.serve_pieces.Given as goal

abbrev pub invariant-pieces : goal.invariant-pieces
invariant-pieces g l = record {
  serving : Serving (option_copied l.self.ns) (inlet (g.L.Link.left l.fn.connection.link.now) (g.L.Link.taken l.fn.connection.link.now)) (inlet (g.L.Link.left l.connection.link.now) (g.L.Link.taken l.connection.link.now))
      (had (g.L.Link.held l.fn.connection.link.now) (g.C.Clock.given l.fn.connection.clock.now) (mine l.fn.connection.pass.now))
      (had (g.L.Link.held l.connection.link.now) (g.C.Clock.given l.connection.clock.now) (mine l.connection.pass.now)) l.framer l.room;
  pass : Continues g.M.Machine.act l.self.desk.now.opening l.fn.connection.pass.now l.connection.pass.now;
  pace : g.C.Clock.pace l.connection.clock.now ≡ g.C.Clock.pace l.fn.connection.clock.now;
  reads : g.L.Link.read_faults l.fn.connection.link.now ≤ g.L.Link.read_faults l.connection.link.now;
  writes : g.L.Link.write_faults l.fn.connection.link.now ≤ g.L.Link.write_faults l.connection.link.now;
  clocks : g.C.Clock.faults l.fn.connection.clock.now ≤ g.C.Clock.faults l.connection.clock.now;
  same_pass : l.connection.pass.ghost_name ≡ l.fn.connection.pass.ghost_name;
  same_link : l.connection.link.ghost_name ≡ l.fn.connection.link.ghost_name;
  same_clock : l.connection.clock.ghost_name ≡ l.fn.connection.clock.ghost_name;
}

abbrev pub decreases-pieces : goal.decreases-pieces
decreases-pieces g l = l.room
