use Rattle.std.proofs.Common.{nat_lt, ◌≡◌, [], refl, sym, ap, subst, ◌∙◌}
use Rattle.std.specs.Prelude.{unwrap_or, IsSome}
use Rattle.ob_io.specs.Dials.{IsVisit}
use Rattle.ob_io.specs.Links.{inlet, IsFresh}
use Rattle.ob_http.proofs.RepliesLemmas.{start}
use Rattle.ob_dialogue.specs.Legs.{had, Ended}
use Rattle.ob_dialogue.specs.Plans.{host_field}
use Rattle.ob_dialogue.specs.InHand as in_hand
use Rattle.ob_dialogue.specs.declared.ending.Ending.TheVariants as ending
use Rattle.ob_dialogue.proofs.LegLemmas.{leg_memory}
use Rattle.ob_dialogue.proofs.TalkLemmas.{visits_none, visits_failed}
use Rattle.ob_dialogue.proofs.DriverLemmas.{visits_link}
use Rattle.ob_dialogue.proofs.talk.Talk.on_dialled.Goals as goal

pub returns-in_default-clause-visits : goal.returns-in_default-clause-visits
returns-in_default-clause-visits g c = visits_none _ _ _ _

pub returns-in_default-dial-clause-visits : goal.returns-in_default-dial-clause-visits
returns-in_default-dial-clause-visits g c =
    visits_failed c.args.self.now.plan.now (nat_lt 0 c.args.self.now.retries) (in_hand.stage c.args.stage) _ _ _ _ (g.K.Sink.held c.args.sink.now) _
    c.in_default-dial.ensures.dials refl c.host.ensures (ap (λ o. unwrap_or o 0) c.port.ensures) c.in_default-dial.ensures.apart

pub returns-in-Err-clause-visits : goal.returns-in-Err-clause-visits
returns-in-Err-clause-visits g c =
    let p = c.args.self.now.plan.now in
    let link = c.in-Err.link in
    let here = had (inlet (g.W.L.Link.left link) (g.W.L.Link.taken link)) (g.W.L.Link.held link) [] (g.K.Sink.held c.args.sink.now) in
    let fresh = subst (λ x. IsFresh (g.W.L.Link.taken x) (g.W.L.Link.held x) (g.W.L.Link.read_faults x) (g.W.L.Link.write_faults x)) (sym c.in-Err.ensures) c.in-Ok-dial.ensures.fresh in
    visits_link p (nat_lt 0 c.args.self.now.retries) (in_hand.stage c.args.stage) (host_field p.url) _ _ _ _ _ _ here here (Ended ending.Memory) _ c.back.ensures.visit.0
    (g.W.L.Link.read_faults link) (g.W.L.Link.write_faults link) (g.W.L.Link.read_faults link) (g.W.L.Link.write_faults link)
    refl (leg_memory _ _ _ _ _) fresh start (λ e. absurd (let wrong : ending.Memory ≡ ending.Link = e in cc)) c.back.ensures.visit.2
    c.in-Ok-dial.ensures.dials c.back.ensures.apart refl c.host.ensures (ap (λ o. unwrap_or o 0) c.port.ensures) c.in-Ok-dial.ensures.apart c.back.ensures.visit.1

pub returns-clause-visits : goal.returns-clause-visits
returns-clause-visits g c =
    let p = c.args.self.now.plan.now in
    let s = c.in-Ok-new.session in
    let t = c.on_link-pause.new.session in
    let visits = c.back-2.ensures.visit in
    let fresh = subst (λ x. IsFresh (g.W.L.Link.taken x) (g.W.L.Link.held x) (g.W.L.Link.read_faults x) (g.W.L.Link.write_faults x)) (sym c.in-Ok-new.ensures.0) c.in-Ok-dial.ensures.fresh in
    visits_link p (nat_lt 0 c.args.self.now.retries) (in_hand.stage c.args.stage) s.host _ _ _ _ _ _
    (had (inlet (g.W.L.Link.left s.link) (g.W.L.Link.taken s.link)) (g.W.L.Link.held s.link) s.framer (g.K.Sink.held c.args.sink.now))
    (had (inlet (g.W.L.Link.left t.link) (g.W.L.Link.taken t.link)) (g.W.L.Link.held t.link) t.framer (g.K.Sink.held c.on_link-pause.new.sink))
    (in_hand.pause c.on_link-pause.result) _ visits.0
    (g.W.L.Link.read_faults s.link) (g.W.L.Link.write_faults s.link) (g.W.L.Link.read_faults t.link) (g.W.L.Link.write_faults t.link)
    (c.in-Ok-new.ensures.1 ∙ c.in-Ok.ensures) c.on_link-pause.ensures.leg fresh c.in-Ok-new.ensures.2 c.on_link-pause.ensures.link
    (subst (λ x. IsSome (g.W.Dialer.visits c.back-2.new.self) → IsVisit visits.0 (g.W.L.Link.left x) (g.W.L.Link.taken x) (g.W.L.Link.held x) (g.W.L.Link.read_faults x) (g.W.L.Link.write_faults x)) c.end.ensures visits.2)
    c.in-Ok-dial.ensures.dials c.back-2.ensures.apart refl c.host.ensures (ap (λ o. unwrap_or o 0) c.port.ensures) c.in-Ok-dial.ensures.apart visits.1
