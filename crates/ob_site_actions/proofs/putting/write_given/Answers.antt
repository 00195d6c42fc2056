use Rattle.std.proofs.Common.{◌≡◌, true, Option, None, sym, ◌∙◌, subst, IsTrue}
use Rattle.ob_object.specs.declared.head.Slot.{Slot}
use Rattle.ob_object.specs.declared.kind.Kind.{Kind}
use Rattle.ob_object.specs.Fits.{fits_slot}
use Rattle.ob_object.specs.Kinds.{same_kind, has_values}
use Rattle.ob_object.specs.Object.{Object}
use Rattle.ob_contracts.proofs.Fitting.{one_kind}
use Rattle.ob_history.specs.Records.{holds_value}
use Rattle.ob_site_rules.specs.declared.fault.Fault.{Fault}
use Rattle.ob_site_rules.specs.State.{State}
use Rattle.ob_site_rules.specs.Writes.{slot_fault, overfills, value_fault, written, showing, unless}
use Rattle.ob_site_actions.proofs.Passed.{slot_fits}
use Rattle.ob_site_actions.proofs.Faults.{nothing_of}
use Rattle.ob_site_actions.specs.Fitting.{CanBeWritten}
use Rattle.ob_site_actions.specs.Stops.{IsDone}
use Rattle.ob_site_actions.proofs.Fitting.{can_be_written}
use Rattle.ob_site_actions.proofs.Refused.{same_of}
use Rattle.ob_site_actions.proofs.putting.write_given.Goals as goal

pub show_written-requires-clause-can : goal.show_written-requires-clause-can
show_written-requires-clause-can g c =
    let k = c.args.state.now in
    let p = c.args.path.now in
    let o = c.args.object.now in
    let new = c.args.new.now in
    let right : value_fault k.plan k.now k.time p o.head new ≡ None = sym c.in_ok-fault.ensures ∙ c.in_default.is in
    let over = overfills k.plan k.now k.time p o.head new.slot in
    let found = slot_fault k.plan k.now o.head new.slot in
    let fits : IsTrue (fits_slot o.head.kind new.slot) = slot_fits k.plan k.now o.head new.slot (nothing_of (same_kind new.kind o.head.kind) found over right).0 in
    let kind : new.kind ≡ o.head.kind = one_kind new.kind o.head.kind (same_of (same_kind new.kind o.head.kind) found over right) in
    let held = subst (λ (x : Kind). has_values x ≡ true → IsTrue (fits_slot x new.slot) → IsTrue (holds_value x new.slot)) kind c.requires.held in
    subst (λ (s : Slot). CanBeWritten k.plan k.now p o.head.kind s) (sym c.slot.ensures)
    (can_be_written k.plan k.now p o new.slot c.sound_law.ensures.sound.consistent c.requires.shows fits c.requires.records (λ v. held v fits))

pub returns-clause-ok : goal.returns-clause-ok
returns-clause-ok g c =
    let k = c.args.state.now in
    let t = c.show_written.new.state in
    let p = c.args.path.now in
    let o = c.args.object.now in
    let new = c.args.new.now in
    let reply = c.in_ok-reply.reply in
    let right : value_fault k.plan k.now k.time p o.head new ≡ None = sym c.in_ok-fault.ensures ∙ c.in_default.is in
    let made : Slot → State × Object = λ s. showing k.plan p o (written k.plan k.time p o s k.now) in
    let done : IsDone k t (made new.slot) reply = subst (λ (s : Slot). IsDone k t (made s) reply) c.slot.ensures c.in_ok-reply.ensures.ok in
    subst (λ (f : Option Fault). IsDone k t (unless f k.now (made new.slot)) reply) (sym right) done
