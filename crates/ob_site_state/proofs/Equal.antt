-- The test of slots.
use Rattle.std.proofs.Common.{◌≡◌, Bool, true, false, refl, sym, ◌∙◌, subst, true≢false}
use Rattle.ob_object.specs.declared.head.Slot.{Slot}
use Rattle.ob_site_rules.specs.Sameness.{same_slot}
use Rattle.ob_site_laws.proofs.Same.{tells_slot}

-- what says whether slots are equal is the test
pub same_test : (result : Bool) (a b : Slot) → (result ≡ true → a ≡ b) → (a ≡ b → result ≡ true) → result ≡ same_slot a b
same_test result a b to from = go result (same_slot a b) refl refl
  where
    go : (x y : Bool) → result ≡ x → same_slot a b ≡ y → x ≡ y
    go true true e f = refl
    go true false e f = absurd (true≢false (sym (subst (λ (c : Slot). same_slot a c ≡ true) (to e) (tells_slot.itself a)) ∙ f))
    go false true e f = absurd (true≢false (sym (from (tells_slot.equal a b f)) ∙ e))
    go false false e f = refl
