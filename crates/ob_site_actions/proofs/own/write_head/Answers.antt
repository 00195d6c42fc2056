use Rattle.std.proofs.Common.{◌≡◌, true, None, sym, ap, ◌∙◌, subst, IsTrue}
use Rattle.ob_object.specs.declared.head.Slot.{Slot}
use Rattle.ob_object.specs.declared.kind.Kind.{Kind}
use Rattle.ob_object.specs.Fits.{fits_slot}
use Rattle.ob_object.specs.Kinds.{same_kind, has_values}
use Rattle.ob_object.specs.Object.{Object}
use Rattle.ob_contracts.proofs.Fitting.{one_kind}
use Rattle.ob_history.specs.Records.{holds_value}
use Rattle.ob_site_rules.specs.State.{State}
use Rattle.ob_site_rules.specs.Writes.{slot_fault, overfills, value_fault, written, showing}
use Rattle.ob_site_actions.proofs.Passed.{slot_fits}
use Rattle.ob_site_actions.proofs.Faults.{nothing_of}
use Rattle.ob_site_actions.specs.Fitting.{CanBeWritten}
use Rattle.ob_site_actions.specs.Stops.{IsDone}
use Rattle.ob_site_actions.proofs.Fitting.{can_be_written}
use Rattle.ob_site_actions.proofs.Refused.{same_of}
use Rattle.ob_site_actions.proofs.own.write_head.Goals as goal

pub show_own-requires-clause-can : goal.show_own-requires-clause-can
show_own-requires-clause-can g c =
    let k = c.args.state.now in
    let p = c.args.at.path.now in
    let o = c.args.own.now in
    let x = c.requires.asked.0 in
    let new = c.args.new.now in
    let right : value_fault k.plan k.now k.time p o.head new ≡ None = sym c.in_ok-fault.ensures ∙ c.in_default.is in
    let over = overfills k.plan k.now k.time p o.head new.slot in
    let found = slot_fault k.plan k.now o.head new.slot in
    let fits : IsTrue (fits_slot o.head.kind new.slot) = slot_fits k.plan k.now o.head new.slot (nothing_of (same_kind new.kind o.head.kind) found over right).0 in
    let kind : new.kind ≡ o.head.kind = one_kind new.kind o.head.kind (same_of (same_kind new.kind o.head.kind) found over right) in
    let own : o.head.kind ≡ x.head.kind = sym (ap (λ (y : Object). y.head.kind) c.requires.asked.1.1) in
    let held : has_values x.head.kind ≡ true → IsTrue (holds_value x.head.kind new.slot) =
    subst (λ (y : Kind). has_values y ≡ true → IsTrue (holds_value y new.slot)) (kind ∙ own) (λ v. c.requires.held v (subst (λ (y : Kind). IsTrue (fits_slot y new.slot)) (sym kind) fits)) in
    subst (λ (s : Slot). CanBeWritten k.plan k.now p o.head.kind s) (sym c.slot.ensures)
    (subst (λ (y : Kind). CanBeWritten k.plan k.now p y new.slot) (sym own)
    (can_be_written k.plan k.now p x new.slot c.sound_law.ensures.sound.consistent c.requires.asked.1.0 (subst (λ (y : Kind). IsTrue (fits_slot y new.slot)) own fits) (λ history has. ap has_values (sym own) ∙ c.requires.values) held))

pub returns-clause-ok : goal.returns-clause-ok
returns-clause-ok g c =
    let k = c.args.state.now in
    let t = c.show_own.new.state in
    let p = c.args.at.path.now in
    let o = c.args.own.now in
    let new = c.args.new.now in
    let reply = c.in_ok-reply.reply in
    let right : value_fault k.plan k.now k.time p o.head new ≡ None = sym c.in_ok-fault.ensures ∙ c.in_default.is in
    let made : Slot → Object → State × Object = λ s d. showing k.plan p d (written k.plan k.time p o s k.now) in
    (right, λ d. subst (λ (s : Slot). IsDone k t (made s d) reply) c.slot.ensures (c.in_ok-reply.ensures.ok d))
