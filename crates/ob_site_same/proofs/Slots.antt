-- The test of slots, as a test.
use Rattle.std.proofs.Common.{◌≡◌, Bool, true, false, refl, sym, ◌∙◌, subst, true≢false}
use Rattle.std.specs.Prelude.{◌↔◌, IsTrue}
use Rattle.ob_object.specs.declared.head.Slot.{Slot}
use Rattle.ob_site_rules.specs.Sameness.{same_slot}
use Rattle.ob_site_laws.proofs.Same.{tells_slot}

pub slot_is : (b : Bool) (x y : Slot) → b ≡ same_slot x y → IsTrue b ↔ (x ≡ y)
slot_is true x y is = (λ _. tells_slot.equal x y (sym is), λ _. refl)
slot_is false x y is =
    (λ t. absurd (true≢false (sym t)), λ e. absurd (true≢false (sym (subst (λ (z : Slot). same_slot x z ≡ true) e (tells_slot.itself x)) ∙ sym is)))
