-- The state after a write of another value.
use Rattle.std.proofs.Common.{◌≡◌, ℕ, Bool, true, false, cond, sym, ap, ◌∙◌}
use Rattle.ob_object.specs.declared.head.Head.{Head}
use Rattle.ob_object.specs.declared.head.Slot.{Slot}
use Rattle.ob_object.specs.Object.{Object}
use Rattle.ob_site_rules.specs.Build.{Path}
use Rattle.ob_site_rules.specs.declared.plan.Plan.{Plan}
use Rattle.ob_site_rules.specs.State.{State as SiteState}
use Rattle.ob_site_rules.specs.Sameness.{same_slot}
use Rattle.ob_site_rules.specs.Writes.{write, written}

pub other_written : (plan : Plan) (s t : SiteState) (now : ℕ) (p : Path) (o : Object) (h : Head) (slot : Slot) → o.head ≡ h → same_slot slot h.slot ≡ false → t ≡ write plan now p h.kind slot s → t ≡ written plan now p o slot s
other_written plan s t now p o h slot head same is =
    is ∙ sym (ap (λ (k : Head). cond (same_slot slot k.slot) s (write plan now p k.kind slot s)) head ∙ ap (λ (b : Bool). cond b s (write plan now p h.kind slot s)) same)
