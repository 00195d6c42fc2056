-- Two lists in strict order that have the same elements are one.
use Rattle.std.proofs.Common.{◌≡◌, List, [], ◌∷◌, refl, ap, ap₂, sym, subst, ◌∙◌, arith, ◌⊎◌, inl, inr}
use Rattle.std.specs.Prelude.{◌↔◌, zero, suc}
use Rattle.std.specs.declared.cmp.Ordering.{Ordering}
use Rattle.std.specs.declared.cmp.Ordering.TheVariants.{Less, Greater}
use Rattle.std.specs.Cmp.{IsTotalOrder}
use Rattle.std.specs.List.{Contains, AllByRecursion}
use Rattle.std.specs.List.Sorted.{IsStrictlySortedBy}
use Rattle.std.specs.Ordering.{ordering_reverse}
use Rattle.ob_weekly.proofs.Told.{not_in_none}

pub head_in : {A : Type 0} (x : A) (xs : List A) → Contains (x ∷ xs) x
head_in x xs = (0, omega arith, refl)

pub later_in : {A : Type 0} (x y : A) (xs : List A) → Contains xs y → Contains (x ∷ xs) y
later_in x y xs h = (suc h.0, omega (arith, h.1), h.2)

pub first_or : {A : Type 0} (x y : A) (xs : List A) → Contains (x ∷ xs) y → (x ≡ y) ⊎ Contains xs y
first_or x y xs (zero, here, is) = inl is
first_or x y xs (suc k, here, is) = inr (k, omega (arith, here), is)

pub of_all : {A : Type 0} (P : A → Type 0) (xs : List A) (y : A) → AllByRecursion P xs → Contains xs y → P y
of_all P [] y all c = absurd (not_in_none y c)
of_all P (x ∷ xs) y all c = elim (first_or x y xs c) [ inl e ↦ subst P e all.0 | inr in_rest ↦ of_all P xs y all.1 in_rest ]

module _ {A : Type 0} (R : A → A → Ordering) (total : IsTotalOrder R) where
  not_both : (x y : A) → R x y ≡ Less → R y x ≡ Less → ⊥
  not_both x y e f = let g : Less ≡ Greater = sym e ∙ (total.antisymm x y ∙ ap ordering_reverse f) in let h : Less ≡ Greater = g in absurd (let i : Less ≡ Greater = h in cc)

  pub one_sorted : (xs ys : List A) → IsStrictlySortedBy R xs → IsStrictlySortedBy R ys → ((d : A) → Contains xs d ↔ Contains ys d) → xs ≡ ys
  unfolding IsStrictlySortedBy
  one_sorted [] [] s t same = refl
  one_sorted [] (y ∷ ys) s t same = absurd (not_in_none y ((same y).1 (head_in y ys)))
  one_sorted (x ∷ xs) [] s t same = absurd (not_in_none x ((same x).0 (head_in x xs)))
  one_sorted (x ∷ xs) (y ∷ ys) s t same =
      let heads : x ≡ y = elim (first_or y x ys ((same x).0 (head_in x xs))) [
        | inl e ↦ sym e
        | inr x_later ↦ elim (first_or x y xs ((same y).1 (head_in y ys))) [
          | inl e ↦ e
          | inr y_later ↦ absurd (not_both x y (of_all (λ d. R x d ≡ Less) xs y s.0 y_later) (of_all (λ d. R y d ≡ Less) ys x t.0 x_later))
        ]
      ] in
      let rests : xs ≡ ys = one_sorted xs ys s.1 t.1 (λ d. (
        λ c. elim (first_or y d ys ((same d).0 (later_in x d xs c))) [
          | inl e ↦ (let before = of_all (λ z. R x z ≡ Less) xs d s.0 c in absurd (not_both x d before (subst (λ z. R z x ≡ Less) (heads ∙ e) (subst (λ z. R x z ≡ Less) (sym (heads ∙ e)) before))))
          | inr c' ↦ c'
        ],
        λ c. elim (first_or x d xs ((same d).1 (later_in y d ys c))) [
          | inl e ↦ (let before = of_all (λ z. R y z ≡ Less) ys d t.0 c in absurd (not_both y d before (subst (λ z. R z y ≡ Less) (sym heads ∙ e) (subst (λ z. R y z ≡ Less) (sym (sym heads ∙ e)) before))))
          | inr c' ↦ c'
        ],
      )) in
      ap₂ (λ h r. h ∷ r) heads rests
