-- Lists that are compared item by item.
use Rattle.std.proofs.Common.{◌≡◌, ℕ, ◌+◌, ◌-◌, ◌<◌, ◌≤◌, List, [], ◌∷◌, ◌++◌, map, length, take, get_or, Some, refl, sym, ◌∙◌, arith, length-append}
use Rattle.std.specs.Prelude.{slice_get}
use Rattle.std.proofs.lemmas.List.{get_or_append_left, get_or-append_right, take_all, take_more_same}
use Rattle.std.proofs.lemmas.Option.{slice_get-get_or, slice_get_read, same_Some}

-- lists of one length that begin alike up to their ends
pub alike_all : {X : Type 0} (xs ys : List X) (n : ℕ) → take n xs ≡ take n ys → length xs ≤ n → length ys ≤ n → xs ≡ ys
alike_all xs ys n e h k = sym (take_all n xs h) ∙ e ∙ take_all n ys k

-- and further, where the next items are the same
pub alike_more : {X : Type 0} (xs ys : List X) (i : ℕ) → take i xs ≡ take i ys → i < length xs → i < length ys → slice_get xs i ≡ slice_get ys i → take (i + 1) xs ≡ take (i + 1) ys
alike_more [] ys i e h k same = absurd (omega (arith, h))
alike_more (x ∷ xs) ys i e h k same =
    take_more_same (x ∷ xs) ys i x h k e
    (same_Some (get_or (x ∷ xs) i x) (get_or ys i x) (sym (slice_get-get_or (x ∷ xs) i x h) ∙ same ∙ slice_get-get_or ys i x k))

-- pairs with the same first parts and the same second parts
pub alike_pairs : {A B : Type 0} (xs ys : List (A × B)) → map (λ x. x.0) xs ≡ map (λ x. x.0) ys → map (λ x. x.1) xs ≡ map (λ x. x.1) ys → xs ≡ ys
alike_pairs [] [] e f = refl
alike_pairs [] (y ∷ ys) e f = absurd cc
alike_pairs (x ∷ xs) [] e f = absurd cc
alike_pairs (x ∷ xs) (y ∷ ys) e f =
    let a : x.0 ≡ y.0 = cc e in
    let b : x.1 ≡ y.1 = cc f in
    let firsts : map (λ x. x.0) xs ≡ map (λ x. x.0) ys = cc e in
    let seconds : map (λ x. x.1) xs ≡ map (λ x. x.1) ys = cc f in
    let more = alike_pairs xs ys firsts seconds in
    λ i. (a i, b i) ∷ more i

-- ---- two slices as one list

pub at_front : {X : Type 0} (xs ys : List X) (n : ℕ) (x : X) → n < length xs → x ≡ get_or xs n x → Some x ≡ slice_get (xs ++ ys) n
at_front xs ys n x h is =
    sym (slice_get_read (xs ++ ys) (length (xs ++ ys)) n x refl (omega (arith, h, length-append xs ys)) (is ∙ sym (get_or_append_left xs ys x n h)))

pub at_back : {X : Type 0} (xs ys : List X) (n : ℕ) (x : X) → length xs ≤ n → n < length (xs ++ ys) → x ≡ get_or ys (n - length xs) x → Some x ≡ slice_get (xs ++ ys) n
at_back xs ys n x h k is = sym (slice_get_read (xs ++ ys) (length (xs ++ ys)) n x refl k (is ∙ sym (get_or-append_right xs ys (length xs) n x refl h)))
