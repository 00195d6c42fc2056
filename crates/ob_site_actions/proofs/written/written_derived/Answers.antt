use Rattle.std.proofs.Common.{◌≡◌, false, refl, sym, ap, ◌∙◌, subst}
use Rattle.std.proofs.lemmas.Result.{IfOk-weaker}
use Rattle.ob_times.specs.Times.{moment_instant}
use Rattle.ob_object.specs.declared.kind.Kind.{Kind}
use Rattle.ob_object.specs.Object.{Object}
use Rattle.ob_history.specs.Records.{IsRecord}
use Rattle.ob_site_rules.specs.State.{State}
use Rattle.ob_site_rules.specs.Sameness.{same_slot}
use Rattle.ob_site_rules.specs.Writes.{write, written}
use Rattle.ob_site_actions.proofs.Otherwise.{other_written}
use Rattle.ob_site_state.specs.Kept.{Kept}
use Rattle.ob_site_actions.proofs.Counting.{counts_more, room_counts}
use Rattle.ob_site_actions.proofs.Steps.{with_alarms}
use Rattle.ob_site_actions.proofs.Nowhere.{derived_written}
use Rattle.ob_site_actions.proofs.written.written_derived.Goals as goal

pub record_all-requires : goal.record_all-requires
record_all-requires c =
    let k = c.args.state.now in
    let p = c.args.path.now in
    let counts = room_counts k.plan k.now k.time p c.args.head.now c.args.slot.now c.sound_law.ensures.sound.consistent.counted (sym (ap (same_slot c.args.slot.now) c.slot.ensures) ∙ sym c.same_slot.ensures ∙ c.if-same_slot.false) c.requires.room in
    λ place l e has. (counts_more k.plan p k.now.logs place l counts e has, subst (λ (x : Kind). IsRecord (record { time = moment_instant k.time; kind = x; slot = c.args.slot.now })) (sym c.kind.ensures) (c.requires.can.is_record l.0 has k.time))

pub returns-clause-ok : goal.returns-clause-ok
returns-clause-ok c =
    let k = c.args.state.now in
    let p = c.args.path.now in
    let h = c.args.head.now in
    let slot = c.args.slot.now in
    let same : same_slot slot h.slot ≡ false = sym (ap (same_slot slot) c.slot.ensures) ∙ sym c.same_slot.ensures ∙ c.if-same_slot.false in
    let so : State → Kept = λ s. record k { now = s } in
    IfOk-weaker c.act.result (λ _. c.act.new.self ≡ with_alarms p slot c.record_all.new.self)
    (λ _. (object : Object) → object.head ≡ h → c.act.new.self ≡ so (written k.plan k.time p object slot k.now))
    (λ _ e object head. derived_written p c.kind.result slot k c.record_all.new.self c.act.new.self c.requires.off c.in_ok-record_all.ensures.ok e
    ∙ ap (λ (x : Kind). so (write k.plan k.time p x slot k.now)) c.kind.ensures
    ∙ ap so (other_written k.plan k.now (write k.plan k.time p h.kind slot k.now) k.time p object h slot head same refl)) c.act.ensures.ok
