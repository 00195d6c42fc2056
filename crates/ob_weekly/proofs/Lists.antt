-- Places in lists, and the last of a list in order.
use Rattle.std.proofs.Common.{◌≡◌, ℕ, ◌+◌, ◌<◌, ◌≤◌, List, [], ◌∷◌, length, false, refl, ap, sym, subst, ◌∙◌, arith, inl, inr, Some, None, ℤ, ◌<ℤ◌, ◌≤ℤ◌}
use Rattle.std.specs.Prelude.{zero, suc, slice_get, slice_index_or}
use Rattle.std.specs.declared.cmp.Ordering.{Ordering}
use Rattle.std.specs.declared.cmp.Ordering.TheVariants.{Less, Equal, Greater}
use Rattle.std.specs.Cmp.{IsTotalOrder}
use Rattle.std.specs.List.{All, Contains}
use Rattle.std.specs.List.Sorted.{IsStrictlySortedBy}
use Rattle.std.specs.Ordering.{int_cmp, is_gt, ordering_then, ordering_reverse, MatchOrdering}
use Rattle.std.proofs.lemmas.Cmp.{int_ranked}
use Rattle.std.proofs.lemmas.Int.{ints}
use Rattle.ob_weekly.specs.declared.due.Due.{Due}
use Rattle.ob_weekly.specs.Firings.{due_cmp}
use Rattle.ob_weekly.proofs.Adding.{below_next_place}
use Rattle.ob_weekly.proofs.OneList.{head_in, later_in, first_or, of_all}
use Rattle.ob_weekly.proofs.Told.{not_in_none}

pub some_one : {A : Type 0} (a b : A) → Some a ≡ Some b → a ≡ b
some_one a b e = cc

-- what stands at a place is contained
pub at_in : {A : Type 0} (xs : List A) (k : ℕ) (x : A) → slice_get xs k ≡ Some x → Contains xs x
at_in [] k x at = absurd (let e : None ≡ Some x = at in cc)
at_in (y ∷ ys) zero x at = subst (Contains (y ∷ ys)) (some_one y x at) (head_in y ys)
at_in (y ∷ ys) (suc k) x at = later_in y x ys (at_in ys k x at)

-- what holds of all holds of it
pub at_place : {A : Type 0} (P : A → Type 0) (xs : List A) (k : ℕ) (x : A) → All P xs → slice_get xs k ≡ Some x → P x
at_place P xs k x all at = (let c = at_in xs k x at in subst P c.2 (all c.0 x c.1))

-- it holds of what stands below a place
abbrev pub Below : {A : Type 0} → (A → Type 0) → List A → ℕ → Type 0
Below {A} P xs n = (k : ℕ) (x : A) → k < n → slice_get xs k ≡ Some x → P x

pub below_none : {A : Type 0} (P : A → Type 0) (xs : List A) → Below P xs 0
below_none P xs = λ k x h at. absurd (omega (arith, h))

pub below_more : {A : Type 0} (P : A → Type 0) (xs : List A) (n : ℕ) (y : A) → Below P xs n → slice_get xs n ≡ Some y → P y → Below P xs (n + 1)
below_more P xs n y below here is = λ k x h at.
    elim (below_next_place k n h) [
      | inl lt ↦ below k x lt at
      | inr e ↦ subst P (some_one y x (sym here ∙ (ap (slice_get xs) (sym e) ∙ at))) is
    ]

pub there : {A : Type 0} (xs : List A) (k : ℕ) (d : A) → k < length xs → slice_get xs k ≡ Some (slice_index_or xs k d)
there [] k d h = absurd (omega (arith, h))
there (x ∷ xs) zero d h = refl
there (x ∷ xs) (suc k) d h = there xs k d (omega (arith, h))

pub all_below : {A : Type 0} (P : A → Type 0) (xs : List A) (n : ℕ) → length xs ≤ n → Below P xs n → All P xs
all_below P xs n enough below = λ k d h. below k (slice_index_or xs k d) (omega (arith, h, enough)) (there xs k d h)

not_behind_itself : (o : Ordering) → o ≡ ordering_reverse o → is_gt o ≡ false
not_behind_itself Less e = refl
not_behind_itself Equal e = refl
not_behind_itself Greater e = absurd (let f : Greater ≡ Less = e in cc)

-- none is behind the last of a list in order
pub last_of : {A : Type 0} (R : A → A → Ordering) → IsTotalOrder R → (xs : List A) (k : ℕ) (x : A) → length xs ≤ k + 1 → slice_get xs k ≡ Some x → IsStrictlySortedBy R xs
    → (d : A) → Contains xs d → is_gt (R d x) ≡ false
unfolding IsStrictlySortedBy
last_of R total [] k x end at sorted d c = absurd (not_in_none d c)
last_of R total (y ∷ ys) zero x end at sorted d c =
    let itself = not_behind_itself (R x x) (total.antisymm x x) in
    elim (first_or y d ys c) [
      | inl e ↦ subst (λ z. is_gt (R z x) ≡ false) (sym (some_one y x at) ∙ e) itself
      | inr later ↦ absurd (omega (arith, later.1, end))
    ]
last_of R total (y ∷ ys) (suc k) x end at sorted d c =
    elim (first_or y d ys c) [
      | inl e ↦ (let before = of_all (λ z. R y z ≡ Less) ys x sorted.0 (at_in ys k x at) in subst (λ z. is_gt (R z x) ≡ false) e (ap is_gt before))
      | inr later ↦ last_of R total ys k x (omega (arith, end)) at sorted.1 d later
    ]

upto_of : (o p : Ordering) (a b : ℤ) → ordering_then o p ≡ Less → MatchOrdering o (a <ℤ b) (a ≡ b) (b <ℤ a) → a ≤ℤ b
upto_of Less p a b e m = omega (arith, ints, m)
upto_of Equal p a b e m = omega (arith, ints, m)
upto_of Greater p a b e m = absurd (let f : Greater ≡ Less = e in cc)

-- none fires before the first of a list in order
pub first_at : (x : Due) (xs : List Due) → IsStrictlySortedBy due_cmp (x ∷ xs) → (d : Due) → Contains (x ∷ xs) d → x.at ≤ℤ d.at
unfolding IsStrictlySortedBy
first_at x xs sorted d c =
    elim (first_or x d xs c) [
      | inl e ↦ subst (λ z. x.at ≤ℤ z.at) e (omega (arith, ints))
      | inr later ↦ upto_of (int_cmp x.at d.at) _ x.at d.at (of_all (λ z. due_cmp x z ≡ Less) xs d sorted.0 later) (int_ranked x.at d.at (int_cmp x.at d.at) refl)
    ]

pub first_of : (xs : List Due) (x : Due) → IsStrictlySortedBy due_cmp xs → (d : Due) → Contains xs d → slice_get xs 0 ≡ Some x → x.at ≤ℤ d.at
first_of [] x sorted d c at = absurd (not_in_none d c)
first_of (y ∷ ys) x sorted d c at = subst (λ z. z.at ≤ℤ d.at) (some_one y x at) (first_at y ys sorted d c)

gt_of : (o p : Ordering) (a b : ℤ) → a <ℤ b → MatchOrdering o (a <ℤ b) (a ≡ b) (b <ℤ a) → is_gt (ordering_then o p) ≡ false
gt_of Less p a b lt m = refl
gt_of Equal p a b lt m = absurd (omega (arith, ints, lt, m))
gt_of Greater p a b lt m = absurd (omega (arith, ints, lt, m))

-- what fires earlier isn't behind
pub earlier_is : (x y : Due) → x.at <ℤ y.at → is_gt (due_cmp x y) ≡ false
earlier_is x y lt = gt_of (int_cmp x.at y.at) _ x.at y.at lt (int_ranked x.at y.at (int_cmp x.at y.at) refl)
