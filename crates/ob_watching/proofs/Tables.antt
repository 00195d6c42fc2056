-- Look-ups in a list of numbered values, after each kind of change.
use Rattle.std.proofs.Common.{◌≡◌, ◌≢◌, ℕ, Bool, true, false, cond, List, [], ◌∷◌, ◌++◌, ◌==◌, Option, Some, None, refl, ap, subst, arith}
use Rattle.std.specs.List.{filter, AllByRecursion}
use Rattle.std.proofs.lemmas.Bool.Decides.{nat_tests}
use Rattle.ob_watching.specs.Tables.{lookup, map_values, replace}

abbrev pub map_option : {A B : Type 0} → (A → B) → Option A → Option B
map_option f None = None
map_option f (Some a) = Some (f a)

pub lookup-map_values : {A B : Type 0} (f : A → B) (n : ℕ) (es : List (ℕ × A)) → lookup n (map_values f es) ≡ map_option f (lookup n es)
lookup-map_values f n [] = refl
lookup-map_values f n (e ∷ es) = elim (e.0 == n) as (λ b. cond b (Some (f e.1)) (lookup n (map_values f es)) ≡ map_option f (cond b (Some e.1) (lookup n es))) [ true ↦ refl | false ↦ lookup-map_values f n es ]

pub lookup-replaced : {A : Type 0} (n : ℕ) (b : A) (es : List (ℕ × A)) (a : A) → lookup n es ≡ Some a → lookup n (replace n (Some b) es) ≡ Some b
lookup-replaced n b [] a h = absurd (cc)
lookup-replaced n b (e ∷ es) a h = elim (e.0 == n) as (λ t. cond t (Some e.1) (lookup n es) ≡ Some a → cond t (Some (cond t b e.1)) (lookup n (replace n (Some b) es)) ≡ Some b) [ true ↦ λ _. refl | false ↦ λ g. lookup-replaced n b es a g ] h

pub lookup-taken : {A : Type 0} (n : ℕ) (es : List (ℕ × A)) → lookup n (replace n None es) ≡ None
lookup-taken n [] = refl
lookup-taken n (e ∷ es) = go (e.0 == n) refl (lookup-taken n es)
  where
    go : (t : Bool) → e.0 == n ≡ t → lookup n (replace n None es) ≡ None → lookup n (cond t (replace n None es) (e ∷ replace n None es)) ≡ None
    go true h rest = rest
    go false h rest = rw h rest

pub lookup-replace_other : {A : Type 0} (k n : ℕ) (new : Option A) (es : List (ℕ × A)) → k ≢ n → lookup k (replace n new es) ≡ lookup k es
lookup-replace_other k n new [] h = refl
lookup-replace_other k n (Some a) (e ∷ es) h = grind (arith, nat_tests, lookup-replace_other k n (Some a) es h)
lookup-replace_other k n None (e ∷ es) h = grind (arith, nat_tests, lookup-replace_other k n None es h)

pub lookup-append_other : {A : Type 0} (k n : ℕ) (a : A) (es : List (ℕ × A)) → k ≢ n → lookup k (es ++ (n, a) ∷ []) ≡ lookup k es
lookup-append_other k n a [] h = grind (arith, nat_tests)
lookup-append_other k n a (e ∷ es) h = ap (cond (e.0 == k) (Some e.1)) (lookup-append_other k n a es h)

pub lookup-append : {A : Type 0} (n : ℕ) (a : A) (es : List (ℕ × A)) → lookup n es ≡ None → lookup n (es ++ (n, a) ∷ []) ≡ Some a
lookup-append n a [] h = grind (arith, nat_tests)
lookup-append n a (e ∷ es) h = grind (arith, nat_tests, lookup-append n a es)

pub lookup_all : {A : Type 0} (P : A → Type 0) (n : ℕ) (es : List (ℕ × A)) (a : A) → AllByRecursion (λ e. P e.1) es → lookup n es ≡ Some a → P a
lookup_all P n [] a all h = absurd (cc)
lookup_all P n (e ∷ es) a all h = elim (e.0 == n) as (λ t. cond t (Some e.1) (lookup n es) ≡ Some a → P a) [ true ↦ λ g. (let same : e.1 ≡ a = cc in subst P same all.0) | false ↦ λ g. lookup_all P n es a all.1 g ] h

-- a value that is not there before a filter is not there after it
pub lookup-filter_none : {A : Type 0} (keep : ℕ × A → Bool) (n : ℕ) (es : List (ℕ × A)) → lookup n es ≡ None → lookup n (filter keep es) ≡ None
lookup-filter_none keep n [] h = refl
lookup-filter_none keep n (e ∷ es) h = grind (arith, nat_tests, lookup-filter_none keep n es)
