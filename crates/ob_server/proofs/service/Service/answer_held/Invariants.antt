use Rattle.std.proofs.Common.{◌≡◌, ◌≤◌, length, option_copied}
use Rattle.ob_turn.specs.Standing.{mine}
use Rattle.ob_server.specs.Exchange.{had}
use Rattle.ob_server.specs.Passes.{Continues}
use Rattle.ob_server.proofs.HeldLemmas.{Answering}
use Rattle.ob_server.proofs.service.Service.answer_held.Given as goal

abbrev pub invariant-loop-next : goal.invariant-loop-next
invariant-loop-next g l = record {
  answering : Answering (option_copied l.self.ns) l.fn.framer l.framer
      (had (g.L.Link.held l.fn.connection.link.now) (g.C.Clock.given l.fn.connection.clock.now) (mine l.fn.connection.pass.now))
      (had (g.L.Link.held l.connection.link.now) (g.C.Clock.given l.connection.clock.now) (mine l.connection.pass.now));
  pass : Continues g.M.Machine.act l.self.desk.now.opening l.fn.connection.pass.now l.connection.pass.now;
  pace : g.C.Clock.pace l.connection.clock.now ≡ g.C.Clock.pace l.fn.connection.clock.now;
  left : g.L.Link.left l.connection.link.now ≡ g.L.Link.left l.fn.connection.link.now;
  took : g.L.Link.taken l.connection.link.now ≡ g.L.Link.taken l.fn.connection.link.now;
  reads : g.L.Link.read_faults l.connection.link.now ≡ g.L.Link.read_faults l.fn.connection.link.now;
  writes : g.L.Link.write_faults l.fn.connection.link.now ≤ g.L.Link.write_faults l.connection.link.now;
  clocks : g.C.Clock.faults l.fn.connection.clock.now ≤ g.C.Clock.faults l.connection.clock.now;
  same_pass : l.connection.pass.ghost_name ≡ l.fn.connection.pass.ghost_name;
  same_link : l.connection.link.ghost_name ≡ l.fn.connection.link.ghost_name;
  same_clock : l.connection.clock.ghost_name ≡ l.fn.connection.clock.ghost_name;
}

abbrev pub decreases-loop-next : goal.decreases-loop-next
decreases-loop-next g l = length l.framer.kept
