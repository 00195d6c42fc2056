use Rattle.std.proofs.Common.{nat_lt, ◌≡◌, ◌≤◌, false, Ok}
use Rattle.ob_io.specs.Links.{inlet}
use Rattle.ob_dialogue.specs.Legs.{Had, had, Leg, Pause}
use Rattle.ob_dialogue.specs.InHand as in_hand
use Rattle.ob_dialogue.proofs.StageLemmas.{stages_left}
use Rattle.ob_dialogue.proofs.talk.Talk.on_link.Given as goal

abbrev pub invariant-turns : goal.invariant-turns
invariant-turns g l = record {
  live : in_hand.IsLive l.stage;
  alive : l.session.is_dead ≡ false;
  host : l.session.host ≡ l.fn.session.host;
  goes : (end : Had) (q : Pause) → Leg l.self.plan.now l.fn.session.host (nat_lt 0 l.self.retries) (Ok (in_hand.stage l.stage))
      (had (inlet (g.L.Link.left l.session.link) (g.L.Link.taken l.session.link)) (g.L.Link.held l.session.link) l.session.framer (g.K.Sink.held l.sink)) end q
      → Leg l.self.plan.now l.fn.session.host (nat_lt 0 l.self.retries) (Ok (in_hand.stage l.fn.stage))
      (had (inlet (g.L.Link.left l.fn.session.link) (g.L.Link.taken l.fn.session.link)) (g.L.Link.held l.fn.session.link) l.fn.session.framer (g.K.Sink.held l.fn.sink)) end q;
  reads : g.L.Link.read_faults l.fn.session.link ≤ g.L.Link.read_faults l.session.link;
  writes : g.L.Link.write_faults l.fn.session.link ≤ g.L.Link.write_faults l.session.link;
  sinks : g.K.Sink.faults l.fn.sink ≤ g.K.Sink.faults l.sink;
}

abbrev pub decreases-turns : goal.decreases-turns
decreases-turns g l = stages_left l.self.plan.now (in_hand.stage l.stage)
