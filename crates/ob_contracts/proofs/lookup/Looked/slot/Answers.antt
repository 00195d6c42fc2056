use Rattle.std.proofs.Common.{◌≡◌, Bool, sym, ap, ◌∙◌, subst}
use Rattle.ob_object.specs.Object.{Object}
use Rattle.ob_contracts.specs.Given.{headed}
use Rattle.ob_contracts.specs.Places.{sources_of}
use Rattle.ob_contracts.specs.Shown.{finish, holder_in}
use Rattle.ob_contracts.specs.declared.reading.Part.TheVariants as part
use Rattle.ob_contracts.proofs.Gifts.{held_slot, slot_with_default}
use Rattle.ob_contracts.proofs.lookup.Looked.slot.Goals as goal

pub returns-then-defaults : goal.returns-then-defaults
returns-then-defaults c =
    let o = c.args.self.now.sources.own.now in
    let ss = sources_of c.args.self.now.sources in
    let held : c.slot-slot.result.now ≡ (holder_in part.Slot o ss).head.slot = c.slot-slot.ensures ∙ ap (λ (x : Object). x.head.slot) c.holder.ensures in
    subst (λ (d : Bool). c.slot_or_default.result.now ≡ (finish d (headed o ss)).head.slot) (sym c.if-defaults.true)
    (slot_with_default o ss c.kind.result c.slot-slot.result.now c.slot_or_default.result.now c.slot_or_default.ensures c.kind.ensures held)

pub returns-else-defaults : goal.returns-else-defaults
returns-else-defaults c =
    let o = c.args.self.now.sources.own.now in
    let ss = sources_of c.args.self.now.sources in
    let held : c.slot-slot.result.now ≡ (holder_in part.Slot o ss).head.slot = c.slot-slot.ensures ∙ ap (λ (x : Object). x.head.slot) c.holder.ensures in
    subst (λ (d : Bool). c.slot-slot.result.now ≡ (finish d (headed o ss)).head.slot) (sym c.if-defaults.false) (held ∙ held_slot o ss)
