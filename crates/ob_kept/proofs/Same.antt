-- Whether two sites are one, told by the form in which each is stored.
use Rattle.std.proofs.Common.{◌≡◌, ◌≢◌, Bool, true, false, refl, ap, ap₂, subst}
use Rattle.std.proofs.lemmas.Bool.{and_parts}
use Rattle.std.proofs.lemmas.Bool.Decides.{Decides-eqb}
use Rattle.std.specs.Cmp.Derive.{both_true}
use base.Stored.{Gv, gnil, gnum, gcons}
use Rattle.ob_site_rules.specs.State.{State}
use Rattle.ob_site_state.specs.Codes.{state_code}
use Rattle.ob_kept.specs.Room.{is_same_form, is_same_site}

same_form : (a b : Gv) → is_same_form a b ≡ true → a ≡ b
same_form gnil gnil is = refl
same_form gnil (gnum n) is = absurd cc
same_form gnil (gcons c d) is = absurd cc
same_form (gnum m) gnil is = absurd cc
same_form (gnum m) (gnum n) is = ap gnum ((Decides-eqb m n).0 is)
same_form (gnum m) (gcons c d) is = absurd cc
same_form (gcons a b) gnil is = absurd cc
same_form (gcons a b) (gnum n) is = absurd cc
same_form (gcons a b) (gcons c d) is =
    let both = and_parts (is_same_form a c) (is_same_form b d) is in
    ap₂ gcons (same_form a c both.0) (same_form b d both.1)

own_form : (a : Gv) → is_same_form a a ≡ true
own_form gnil = refl
own_form (gnum n) = (Decides-eqb n n).1 refl
own_form (gcons a b) = both_true (own_form a) (own_form b)

pub one_site : (a b : State) → a ≡ b → is_same_site a b ≡ true
one_site a b same = subst (λ (x : State). is_same_site a x ≡ true) same (own_form (state_code.code a))

pub other_site : (a b : State) → a ≢ b → is_same_site a b ≡ false
other_site a b other = go (is_same_site a b) refl
  where
    go : (yes : Bool) → is_same_site a b ≡ yes → yes ≡ false
    go true is = absurd (other (state_code.inj a b (same_form (state_code.code a) (state_code.code b) is)))
    go false is = refl
