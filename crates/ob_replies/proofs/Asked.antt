-- The first of a list that pass a test, so many at most, taken one by one.
use Rattle.std.proofs.Common.{◌≡◌, ℕ, ◌+◌, ◌<◌, ◌≤◌, zero, suc, Bool, true, false, cond, ◌&&◌, nat_lt, List, [], ◌∷◌, ◌++◌, map, length, take, drop, get_or, refl, sym, ap, ◌∙◌, subst, arith}
use Rattle.std.specs.Prelude.{filter}
use Rattle.std.specs.List.{list_all}
use Rattle.std.proofs.lemmas.List.{append-nil, map-append, length-map, length-append, length-take, take_all, take-append-le, take-append-drop}
use Rattle.std.proofs.lemmas.List.Elements.{filter_more, filter-append}
use Rattle.std.proofs.lemmas.Bool.{ltb-true, ltb-false}
use Rattle.ob_times.specs.Times.{Instant}
use Rattle.ob_values.proofs.Bools.{and_first, and_second}
use Rattle.ob_object.specs.Object.{Object}
use Rattle.ob_site_rules.specs.Build.{Text}
use Rattle.ob_site_rules.specs.Entries.{query_out}

-- the first n that pass
abbrev pub firsts : {A : Type 0} → ℕ → (A → Bool) → List A → List A
firsts n p xs = take n (filter p xs)

take_below : {A : Type 0} (n : ℕ) (xs : List A) (x : A) → length (take n xs) < n → take n (xs ++ x ∷ []) ≡ take n xs ++ x ∷ []
take_below n xs x room =
    let l = length-take n xs in
    let short : length xs < n = omega arith in
    let longer : length (xs ++ x ∷ []) ≤ n = omega (arith, length-append xs (x ∷ [])) in
    take_all n (xs ++ x ∷ []) longer ∙ ap (λ ys. ys ++ x ∷ []) (sym (take_all n xs (omega arith)))

take_full : {A : Type 0} (n : ℕ) (xs ys : List A) → n ≤ length (take n xs) → take n (xs ++ ys) ≡ take n xs
take_full n xs ys full =
    let l = length-take n xs in
    take-append-le n xs ys (omega arith)

passing : {A : Type 0} (p : A → Bool) (xs : List A) (i : ℕ) (x : A) (b : Bool) → i < length xs → x ≡ get_or xs i x → p x ≡ b → filter p (take (i + 1) xs) ≡ filter p (take i xs) ++ cond b (x ∷ []) []
passing p xs i x b lt at is =
    filter_more p xs i x lt
    ∙ (ap (λ y. filter p (take i xs) ++ cond (p y) (y ∷ []) []) (sym at)
    ∙ ap (λ c. filter p (take i xs) ++ cond c (x ∷ []) []) is)

one_more : {A : Type 0} (n : ℕ) (p : A → Bool) (xs : List A) (i : ℕ) (x : A) → i < length xs → x ≡ get_or xs i x → length (firsts n p (take i xs)) < n → p x ≡ true → firsts n p (take (i + 1) xs) ≡ firsts n p (take i xs) ++ x ∷ []
one_more n p xs i x lt at room is =
    ap (take n) (passing p xs i x true lt at is) ∙ take_below n (filter p (take i xs)) x room

not_passing : {A : Type 0} (n : ℕ) (p : A → Bool) (xs : List A) (i : ℕ) (x : A) → i < length xs → x ≡ get_or xs i x → p x ≡ false → firsts n p (take (i + 1) xs) ≡ firsts n p (take i xs)
not_passing n p xs i x lt at is = ap (take n) (passing p xs i x false lt at is ∙ append-nil (filter p (take i xs)))

no_room : {A : Type 0} (n : ℕ) (p : A → Bool) (xs : List A) (i : ℕ) (x : A) → i < length xs → x ≡ get_or xs i x → n ≤ length (firsts n p (take i xs)) → firsts n p (take (i + 1) xs) ≡ firsts n p (take i xs)
no_room n p xs i x lt at full =
    ap (take n) (passing p xs i x (p x) lt at refl) ∙ take_full n (filter p (take i xs)) (cond (p x) (x ∷ []) []) full

no_more : {A : Type 0} (n : ℕ) (p : A → Bool) (xs : List A) (i : ℕ) (x : A) (b c : Bool) → i < length xs → x ≡ get_or xs i x → nat_lt (length (firsts n p (take i xs))) n ≡ b → p x ≡ c → (b && c) ≡ false → firsts n p (take (i + 1) xs) ≡ firsts n p (take i xs)
no_more n p xs i x true true lt at room is h = absurd (let e : true ≡ false = h in cc)
no_more n p xs i x true false lt at room is h = not_passing n p xs i x lt at is
no_more n p xs i x false c lt at room is h = no_room n p xs i x lt at (ltb-false _ n room)

pub at_all : {A : Type 0} (p : A → Bool) (xs : List A) (i : ℕ) (d : A) → list_all p xs ≡ true → i < length xs → p (get_or xs i d) ≡ true
at_all p [] i d h lt = absurd (omega arith)
at_all p (x ∷ xs) zero d h lt = and_first _ _ h
at_all p (x ∷ xs) (suc i) d h lt = at_all p xs i d (and_second (p x) _ h) (omega arith)

-- the times and the objects of the first that pass
pub record IsGiven {A : Type 0} (n : ℕ) (p : A → Bool) (time : A → Instant) (object : A → Object) (xs : List A) (ts : List Instant) (os : List Object) : Type 0 where
  pub times : ts ≡ map time (firsts n p xs)
  pub objects : os ≡ map object (firsts n p xs)

so_many : {A B : Type 0} (f : A → B) (xs : List A) (ys : List B) → ys ≡ map f xs → length ys ≡ length xs
so_many f xs ys e = ap length e ∙ length-map xs f

pub given_more : {A : Type 0} (n : ℕ) (p : A → Bool) (time : A → Instant) (object : A → Object) (xs : List A) (times : List Instant) (objects : List Object) (i : ℕ) (x : A) → IsGiven n p time object (take i xs) times objects → i < length xs → x ≡ get_or xs i x → (nat_lt (length objects) n && p x) ≡ true → IsGiven n p time object (take (i + 1) xs) (times ++ time x ∷ []) (objects ++ object x ∷ [])
given_more n p time object xs times objects i x g lt at is =
    let few : length objects < n = ltb-true (length objects) n (and_first (nat_lt (length objects) n) (p x) is) in
    let many = so_many object (firsts n p (take i xs)) objects g.objects in
    let e : firsts n p (take (i + 1) xs) ≡ firsts n p (take i xs) ++ x ∷ [] = one_more n p xs i x lt at (omega arith) (and_second (nat_lt (length objects) n) (p x) is) in
    record {
      times = ap (λ ts. ts ++ time x ∷ []) g.times ∙ (sym (map-append time (firsts n p (take i xs)) (x ∷ [])) ∙ ap (map time) (sym e));
      objects = ap (λ os. os ++ object x ∷ []) g.objects ∙ (sym (map-append object (firsts n p (take i xs)) (x ∷ [])) ∙ ap (map object) (sym e));
    }

pub given_same : {A : Type 0} (n : ℕ) (p : A → Bool) (time : A → Instant) (object : A → Object) (xs : List A) (times : List Instant) (objects : List Object) (i : ℕ) (x : A) → IsGiven n p time object (take i xs) times objects → i < length xs → x ≡ get_or xs i x → (nat_lt (length objects) n && p x) ≡ false → IsGiven n p time object (take (i + 1) xs) times objects
given_same n p time object xs times objects i x g lt at is =
    let many = so_many object (firsts n p (take i xs)) objects g.objects in
    let e : firsts n p (take (i + 1) xs) ≡ firsts n p (take i xs) = no_more n p xs i x (nat_lt (length objects) n) (p x) lt at (ap (λ k. nat_lt k n) (sym many)) refl is in
    record {
      times = g.times ∙ ap (map time) (sym e);
      objects = g.objects ∙ ap (map object) (sym e);
    }

pub given_as : {A : Type 0} (n : ℕ) (p : A → Bool) (time : A → Instant) (object : A → Object) (xs : List A) (times ts : List Instant) (objects os : List Object) → ts ≡ times → os ≡ objects → IsGiven n p time object xs times objects → IsGiven n p time object xs ts os
given_as n p time object xs times ts objects os t o g = record { times = t ∙ g.times; objects = o ∙ g.objects }

-- all were gone through
pub given_all : {A : Type 0} (n : ℕ) (p : A → Bool) (time : A → Instant) (object : A → Object) (xs : List A) (times : List Instant) (objects : List Object) (k : ℕ) → IsGiven n p time object (take k xs) times objects → length xs ≤ k → IsGiven n p time object xs times objects
given_all {A = A} n p time object xs times objects k g le = subst (λ (ys : List A). IsGiven n p time object ys times objects) (take_all k xs le) g

-- there are as many as are asked for, so that what follows adds none
pub given_enough : {A : Type 0} (n : ℕ) (p : A → Bool) (time : A → Instant) (object : A → Object) (xs : List A) (times : List Instant) (objects : List Object) (i : ℕ) → IsGiven n p time object (take i xs) times objects → n ≤ length objects → IsGiven n p time object xs times objects
given_enough n p time object xs times objects i g full =
    let many = so_many object (firsts n p (take i xs)) objects g.objects in
    let e : firsts n p xs ≡ firsts n p (take i xs) =
    ap (firsts n p) (sym (take-append-drop i xs))
    ∙ (ap (take n) (filter-append p (take i xs) (drop i xs)) ∙ take_full n (filter p (take i xs)) (filter p (drop i xs)) (omega arith)) in
    record {
      times = g.times ∙ ap (map time) (sym e);
      objects = g.objects ∙ ap (map object) (sym e);
    }

-- none of the first ones passes
pub given_none : {A : Type 0} (n : ℕ) (p : A → Bool) (time : A → Instant) (object : A → Object) (xs : List A) (i : ℕ) → filter p (take i xs) ≡ [] → IsGiven n p time object (take i xs) [] []
given_none n p time object xs i none = record {
  times = sym (ap (λ ys. map time (take n ys)) none ∙ ap (map time) (nothing n));
  objects = sym (ap (λ ys. map object (take n ys)) none ∙ ap (map object) (nothing n));
}
  where
    nothing : {A : Type 0} (n : ℕ) → take n [] ≡ (let none : List A = [] in none)
    nothing zero = refl
    nothing (suc n) = refl

-- none of the others passes
pub given_rest : {A : Type 0} (n : ℕ) (p : A → Bool) (time : A → Instant) (object : A → Object) (xs : List A) (times : List Instant) (objects : List Object) (k : ℕ) → IsGiven n p time object (take k xs) times objects → filter p (drop k xs) ≡ [] → IsGiven n p time object xs times objects
given_rest n p time object xs times objects k g none =
    let e : firsts n p xs ≡ firsts n p (take k xs) =
    ap (firsts n p) (sym (take-append-drop k xs))
    ∙ ap (take n) (filter-append p (take k xs) (drop k xs) ∙ ap (λ ys. filter p (take k xs) ++ ys) none ∙ append-nil (filter p (take k xs))) in
    record {
      times = g.times ∙ ap (map time) (sym e);
      objects = g.objects ∙ ap (map object) (sym e);
    }

pub same_answer : (is of : Text) (numbers : List Object) (ts us : List Instant) (os ps : List Object) → ts ≡ us → os ≡ ps → query_out is of numbers ts os ≡ query_out is of numbers us ps
same_answer is of numbers ts us os ps e h = ap (λ (t : List Instant). query_out is of numbers t os) e ∙ ap (λ (o : List Object). query_out is of numbers us o) h
