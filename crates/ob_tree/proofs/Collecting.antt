-- Numbers that are gone through from 0 on, of which some are kept.
use Rattle.std.proofs.Common.{◌≡◌, ◌⊎◌, ◌↔◌, inl, inr, ℕ, ◌+◌, ◌<◌, Bool, true, false, IsTrue, List, [], ◌∷◌, ◌++◌, Option, Some, refl, sym, ap, ◌∙◌, subst, arith}
use Rattle.std.specs.Prelude.{nat_lt, All, Contains}
use Rattle.std.specs.List.{AllPairs}
use Rattle.std.proofs.lemmas.Bool.{ltb-true, ltb-false}
use Rattle.std.proofs.lemmas.List.Elements.{All-nil, All-push, All-weaker, All-get_or, Contains-append_left, Contains-push}
use Rattle.std.proofs.lemmas.List.Quantifiers.{all_pairs_push}
use Rattle.ob_object.specs.Object.{Object, parts}
use Rattle.ob_contracts.specs.Inherit.{Contracts}
use Rattle.ob_tree.specs.Differing.{Differs, AreDiffering}

same_in : (x y : Object) → Some x ≡ Some y → x ≡ y
same_in x y e = cc

-- two answers are one exactly where two objects are
pub alike : (b : Bool) (x y : Object) (p q : Option Object) → Some x ≡ p → Some y ≡ q → (IsTrue b ↔ (x ≡ y)) → IsTrue b ↔ (p ≡ q)
alike b x y p q e f same = (λ t. sym e ∙ ap (λ (o : Object). Some o) (same.0 t) ∙ f, λ g. same.1 (same_in x y (e ∙ g ∙ sym f)))

-- these are, in order, the numbers below a bound that are such
pub record Collected (Is : ℕ → Type 0) (n : ℕ) (ns : List ℕ) : Type 0 where
  pub those : All (λ m. (m < n) × Is m) ns
  pub all : (m : ℕ) → m < n → Is m → Contains ns m
  pub in_order : AllPairs (λ x y. x < y) ns

pub none_yet : (Is : ℕ → Type 0) → Collected Is 0 []
none_yet Is = record {
  those = All-nil (λ m. (m < 0) × Is m);
  all = λ m lt is. absurd (omega (arith, lt));
  in_order = λ i j d less lt. absurd (omega (arith, lt));
}

below_or_it : (m n : ℕ) → m < n + 1 → (m < n) ⊎ (m ≡ n)
below_or_it m n lt = go (nat_lt m n) refl
  where
    go : (b : Bool) → nat_lt m n ≡ b → (m < n) ⊎ (m ≡ n)
    go true e = inl (ltb-true m n e)
    go false e = inr (omega (arith, lt, ltb-false m n e))

further : (Is : ℕ → Type 0) (n : ℕ) (ns : List ℕ) → All (λ m. (m < n) × Is m) ns → All (λ m. (m < n + 1) × Is m) ns
further Is n ns = All-weaker (λ m. (m < n) × Is m) (λ m. (m < n + 1) × Is m) (λ m p. (omega (arith, p.0), p.1)) ns

-- one number more, which is such
pub takes : (Is : ℕ → Type 0) (n : ℕ) (ns more : List ℕ) → Collected Is n ns → Is n → more ≡ ns ++ n ∷ [] → Collected Is (n + 1) more
takes Is n ns more c is e = subst (λ (l : List ℕ). Collected Is (n + 1) l) (sym e)
    (record {
      those = All-push (λ m. (m < n + 1) × Is m) ns n (further Is n ns c.those) (omega arith, is);
      all = λ m lt it. go m it (below_or_it m n lt);
      in_order = all_pairs_push (λ x y. x < y) ns n c.in_order (λ k d lt. (All-get_or (λ m. (m < n) × Is m) ns k d lt c.those).0);
    })
  where
    go : (m : ℕ) → Is m → (m < n) ⊎ (m ≡ n) → Contains (ns ++ n ∷ []) m
    go m it (inl lt) = Contains-append_left ns (n ∷ []) m (c.all m lt it)
    go m it (inr same) = subst (λ (k : ℕ). Contains (ns ++ n ∷ []) k) (sym same) (Contains-push ns n)

-- and one that isn't
pub leaves : (Is : ℕ → Type 0) (n : ℕ) (ns more : List ℕ) → Collected Is n ns → (Is n → ⊥) → more ≡ ns → Collected Is (n + 1) more
leaves Is n ns more c not_it e = subst (λ (l : List ℕ). Collected Is (n + 1) l) (sym e)
    (record {
      those = further Is n ns c.those;
      all = λ m lt it. go m it (below_or_it m n lt);
      in_order = c.in_order;
    })
  where
    go : (m : ℕ) → Is m → (m < n) ⊎ (m ≡ n) → Contains ns m
    go m it (inl lt) = c.all m lt it
    go m it (inr same) = absurd (not_it (subst Is same it))

-- all of them
pub collected : (old new : Contracts) (o : Object) (n : ℕ) (ns : List ℕ) → n ≡ parts o → Collected (Differs old new o) n ns → AreDiffering old new o ns
collected old new o n ns e c =
    let all : Collected (Differs old new o) (parts o) ns = subst (λ (k : ℕ). Collected (Differs old new o) k ns) e c in
    record { differ = all.those; all = all.all; in_order = all.in_order }
