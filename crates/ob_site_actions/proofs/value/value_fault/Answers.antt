use Rattle.std.proofs.Common.{IsTrue, sym, ap, ◌∙◌, subst}
use Rattle.ob_object.specs.Fits.{fits_slot}
use Rattle.ob_object.specs.Object.{Object}
use Rattle.ob_object.specs.declared.kind.Kind.{Kind}
use Rattle.ob_site_actions.proofs.Passed.{slot_fits}
use Rattle.ob_site_actions.proofs.Faults.{none_told}
use Rattle.ob_site_actions.proofs.Fitting.{rule_takes}
use Rattle.ob_site_actions.proofs.value.value_fault.Goals as goal

pub overfills-requires : goal.overfills-requires
overfills-requires g c =
    let k = c.args.state.now in
    let slot = c.slot-slot.result.now in
    let o = c.args.object.now in
    rule_takes k.plan k.now c.args.path.now c.requires.0 slot c.sound_law.ensures.sound.consistent c.requires.1.0
    (subst (λ (kind : Kind). IsTrue (fits_slot kind slot)) (sym (ap (λ (x : Object). x.head.kind) c.requires.1.1))
    (slot_fits k.plan k.now o.head slot (sym c.in_ok-fault.ensures ∙ sym (none_told c.in_ok-fault.fault (sym c.is_some.ensures ∙ c.if-is_some.false)))))
