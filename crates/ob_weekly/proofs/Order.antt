-- What is due in order, each once.
use Rattle.std.proofs.Common.{◌≡◌, ℕ, List, Bool, true, false, ℤ, ◌&&◌, nat_eq, refl, ap, ap₂, sym, subst, ◌∙◌, arith}
use Rattle.std.specs.Prelude.{IsPermutation, IsSorted}
use Rattle.std.specs.Cmp.{IsTotalOrder, IsEquivalence}
use Rattle.std.specs.List.{Contains, dedup}
use Rattle.std.specs.List.Sorted.{IsStrictlySortedBy}
use Rattle.std.specs.declared.cmp.Ordering.{Ordering}
use Rattle.std.specs.declared.cmp.Ordering.TheVariants.{Less, Equal, Greater}
use Rattle.std.specs.Ordering.{nat_cmp, int_cmp, int_eq, is_eq, is_gt, ordering_then, ordering_reverse, eq_by_cmp}
use Rattle.std.proofs.lemmas.Int.{ints}
use Rattle.std.proofs.lemmas.Map.Lookups.{exact_pairs, exact_signed, exact_unsigned}
use Rattle.std.proofs.lemmas.Bool.Decides.{nat_tests}
use Rattle.std.proofs.lemmas.Cmp.{int_cmp_total, nat_cmp_total, on_total, then_total, eq_by_cmp_equiv}
use Rattle.std.proofs.lemmas.List.Kept.{IsStrictlySortedBy-dedup, Contains-dedup, Contains-from_dedup}
use Rattle.std.proofs.lemmas.List.Sorted.{Contains-permutation, IsPermutation-sym}
use Rattle.ob_weekly.specs.declared.due.Due.{Due}
use Rattle.ob_weekly.specs.Firings.{due_cmp}
use Rattle.ob_weekly.specs.Search.{IsOrderOf}

pub due_total : IsTotalOrder due_cmp
due_total = then_total (on_total (λ d. d.at) int_cmp_total) (then_total (on_total (λ d. d.schedule) nat_cmp_total)
    (then_total (on_total (λ d. d.day) nat_cmp_total) (then_total (on_total (λ d. d.at_ms) nat_cmp_total) (on_total (λ d. d.entry) nat_cmp_total))))

-- where E is equality and tells the ties of the order
pub put_in_order_is : (E : Due → Due → Bool) → IsEquivalence E → ((x y : Due) → E x y ≡ eq_by_cmp due_cmp x y) → ((x y : Due) → E x y ≡ true → x ≡ y)
    → (old sorted new : List Due) → IsPermutation old sorted → IsSorted due_cmp sorted → new ≡ dedup E sorted → IsOrderOf old new
put_in_order_is E equiv ties same old sorted new moved is new_is = record {
  order = subst (IsStrictlySortedBy due_cmp) (sym new_is) (IsStrictlySortedBy-dedup due_total ties sorted is);
  same = λ d. (
    λ c. Contains-permutation sorted old d (IsPermutation-sym old sorted moved) (Contains-from_dedup E sorted d (subst (λ l. Contains l d) new_is c)),
    λ c. subst (λ l. Contains l d) (sym new_is) (Contains-dedup equiv same sorted d (Contains-permutation old sorted d moved c)),
  );
}

-- what the order doesn't tell apart is one
due_of : ℤ × (ℕ × (ℕ × (ℕ × ℕ))) → Due
due_of p = record { at = p.0; schedule = p.1.0; day = p.1.1.0; at_ms = p.1.1.1.0; entry = p.1.1.1.1 }

pub due_exact : (x y : Due) → due_cmp x y ≡ Equal → x ≡ y
unfolding due_of
due_exact x y h =
    ap due_of (exact_pairs int_cmp _ exact_signed (exact_pairs nat_cmp _ exact_unsigned (exact_pairs nat_cmp _ exact_unsigned (exact_pairs nat_cmp nat_cmp exact_unsigned exact_unsigned)))
    (x.at, (x.schedule, (x.day, (x.at_ms, x.entry)))) (y.at, (y.schedule, (y.day, (y.at_ms, y.entry)))) h)

equal_from : (o : Ordering) → is_eq o ≡ true → o ≡ Equal
equal_from Less e = absurd (let f : false ≡ true = e in cc)
equal_from Equal e = refl
equal_from Greater e = absurd (let f : false ≡ true = e in cc)

both_equal : (o p : Ordering) → is_eq (ordering_then o p) ≡ (is_eq o && is_eq p)
both_equal Less p = refl
both_equal Equal p = refl
both_equal Greater p = refl

ints_equal : (a b : ℤ) → int_eq a b ≡ is_eq (int_cmp a b)
ints_equal a b = grind (arith, ints)

numbers_equal : (a b : ℕ) → nat_eq a b ≡ is_eq (nat_cmp a b)
numbers_equal a b = grind (arith, nat_tests)

-- equality by fields tells the ties of the order
pub due_ties : (x y : Due) → (int_eq x.at y.at && (nat_eq x.schedule y.schedule && (nat_eq x.day y.day && (nat_eq x.at_ms y.at_ms && nat_eq x.entry y.entry)))) ≡ eq_by_cmp due_cmp x y
due_ties x y =
    sym (both_equal (int_cmp x.at y.at) _ ∙ ap₂ (λ a b. a && b) (sym (ints_equal x.at y.at))
    (both_equal (nat_cmp x.schedule y.schedule) _ ∙ ap₂ (λ a b. a && b) (sym (numbers_equal x.schedule y.schedule))
    (both_equal (nat_cmp x.day y.day) _ ∙ ap₂ (λ a b. a && b) (sym (numbers_equal x.day y.day))
    (both_equal (nat_cmp x.at_ms y.at_ms) _ ∙ ap₂ (λ a b. a && b) (sym (numbers_equal x.at_ms y.at_ms)) (sym (numbers_equal x.entry y.entry))))))

-- the same where E is equality by fields
pub in_order : (E : Due → Due → Bool) → ((x y : Due) → E x y ≡ eq_by_cmp due_cmp x y) → (old sorted new : List Due) → IsPermutation old sorted → IsSorted due_cmp sorted → new ≡ dedup E sorted → IsOrderOf old new
in_order E ties old sorted new moved is new_is =
    let e : E ≡ eq_by_cmp due_cmp = λ i x y. ties x y i in
    put_in_order_is (eq_by_cmp due_cmp) (eq_by_cmp_equiv due_total) (λ x y. refl) (λ x y s. due_exact x y (equal_from (due_cmp x y) s)) old sorted new moved is (new_is ∙ ap (λ F. dedup F sorted) e)

-- neither is behind the other
none_behind : (o p : Ordering) → p ≡ ordering_reverse o → is_gt o ≡ false → is_gt p ≡ false → o ≡ Equal
none_behind Less p e f g = absurd (let h : true ≡ false = sym (ap is_gt e) ∙ g in cc)
none_behind Equal p e f g = refl
none_behind Greater p e f g = absurd (let h : true ≡ false = f in cc)

pub one_last : (x y : Due) → is_gt (due_cmp x y) ≡ false → is_gt (due_cmp y x) ≡ false → x ≡ y
one_last x y f g = due_exact x y (none_behind (due_cmp x y) (due_cmp y x) (due_total.antisymm y x) f g)
