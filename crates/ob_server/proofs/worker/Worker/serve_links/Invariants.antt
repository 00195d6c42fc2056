use Rattle.std.proofs.Common.{◌≡◌, ◌≤◌, is_some, option_copied}
use Rattle.ob_turn.specs.Standing.{mine}
use Rattle.ob_server.specs.Passes.{Continues}
use Rattle.ob_server.specs.Working.{post}
use Rattle.ob_server.proofs.WorkLemmas.{Working}
use Rattle.ob_server.proofs.worker.Worker.serve_links.Given as goal

abbrev pub invariant-loop-links : goal.invariant-loop-links
invariant-loop-links g l = record {
  working : Working (option_copied l.service.ns) (is_some l.stays)
      (post (g.D.Door.visits l.fn.self.door) (g.D.Door.handed l.fn.self.door) (g.D.Door.returned l.fn.self.door) (g.C.Clock.given l.fn.self.clock) (mine l.fn.self.pass))
      (post (g.D.Door.visits l.self.door) (g.D.Door.handed l.self.door) (g.D.Door.returned l.self.door) (g.C.Clock.given l.self.clock) (mine l.self.pass)) l.links;
  pass : Continues g.M.Machine.act l.service.desk.now.opening l.fn.self.pass l.self.pass;
  pace : g.C.Clock.pace l.self.clock ≡ g.C.Clock.pace l.fn.self.clock;
  doors : g.D.Door.faults l.fn.self.door ≤ g.D.Door.faults l.self.door;
  clocks : g.C.Clock.faults l.fn.self.clock ≤ g.C.Clock.faults l.self.clock;
}
