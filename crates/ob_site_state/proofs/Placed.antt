-- Places of elements in lists.
use Rattle.std.proofs.Common.{◌≡◌, ℕ, suc, ◌+◌, ◌-◌, ◌<◌, ◌≤◌, Bool, true, false, ◌||◌, cond, List, [], ◌∷◌, map, ◌++◌, length, take, drop, get_or, Option, Some, None, option_map, refl, sym, ap, ◌∙◌, arith, add-one}
use Rattle.std.specs.Prelude.{is_some}
use Rattle.std.specs.List.{list_any}
use Rattle.std.proofs.Math.Seq.{drop-cons}
use Rattle.std.proofs.lemmas.List.{drop_all, length-take, map-append, take_more}
use Rattle.ob_alarms.specs.Lists.{first_place}
use Rattle.ob_site_state.specs.Roles.{place_from, all_places}

none_more : (o : Option ℕ) → option_map (λ n. n + 0) o ≡ o
none_more None = refl
none_more (Some n) = ap Some (omega arith)

pub from_start : {A : Type 0} (f : A → Bool) (xs : List A) → place_from f 0 xs ≡ first_place f xs
from_start f xs = none_more (first_place f xs)

one_more : (b : Bool) (i : ℕ) (o : Option ℕ) → option_map (λ n. n + i) (cond b (Some 0) (option_map (λ n. n + 1) o)) ≡ cond b (Some i) (option_map (λ n. n + (i + 1)) o)
one_more true i o = ap Some (omega arith)
one_more false i None = refl
one_more false i (Some n) = ap Some (omega arith)

-- from a place on, the first is what stands there, or else the first behind it
pub from_here : {A : Type 0} (f : A → Bool) (xs : List A) (i : ℕ) (x : A) → i < length xs → x ≡ get_or xs i x → place_from f i xs ≡ cond (f x) (Some i) (place_from f (i + 1) xs)
from_here f xs i x lt is =
    ap (λ (l : List _). option_map (λ n. n + i) (first_place f l)) (drop-cons xs i x lt ∙ ap (λ y. y ∷ drop (suc i) xs) (sym is))
    ∙ ap (λ (k : ℕ). option_map (λ n. n + i) (cond (f x) (Some 0) (option_map (λ n. n + 1) (first_place f (drop k xs))))) (sym (add-one i))
    ∙ one_more (f x) i (first_place f (drop (i + 1) xs))

pub from_end : {A : Type 0} (f : A → Bool) (xs : List A) (i : ℕ) → length xs ≤ i → place_from f i xs ≡ None
from_end f xs i h = ap (λ (l : List _). option_map (λ n. n + i) (first_place f l)) (drop_all i xs h)

-- one more place, before those that were put
pub placed_next : {A : Type 0} (f : A → Bool) (xs : List A) (len done place : ℕ) (x : A) (key : Bool) (old new : Option ℕ) → len ≡ length xs → place ≡ len - 1 - done → done < len → x ≡ get_or xs place x → key ≡ f x
    → new ≡ cond key (Some place) old → old ≡ place_from f (len - done) xs → new ≡ place_from f (len - (done + 1)) xs
placed_next f xs len done place x key old new all at lt is same put so_far =
    let here : place < length xs = omega arith in
    let next : len - done ≡ place + 1 = omega arith in
    let this : place ≡ len - (done + 1) = omega arith in
    put
    ∙ ap (λ (b : Bool). cond b (Some place) old) same
    ∙ ap (λ (o : Option ℕ). cond (f x) (Some place) o) (so_far ∙ ap (λ (n : ℕ). place_from f n xs) next)
    ∙ sym (from_here f xs place x here is)
    ∙ ap (λ (n : ℕ). place_from f n xs) this

-- something passes a test where there is a first that does
pub some_first : {A : Type 0} (f : A → Bool) (xs : List A) → is_some (first_place f xs) ≡ list_any f xs
some_first f [] = refl
some_first f (x ∷ xs) = go (f x) (first_place f xs) (some_first f xs)
  where
    go : (b : Bool) (o : Option ℕ) → is_some o ≡ list_any f xs → is_some (cond b (Some 0) (option_map (λ n. n + 1) o)) ≡ (b || list_any f xs)
    go true o e = refl
    go false None e = e
    go false (Some n) e = e

-- the places of elements and of one more behind them
add_place : (b c : Bool) (n : ℕ) (ps qs : List ℕ) → qs ≡ cond b (ps ++ n ∷ []) ps
    → cond c (0 ∷ map (λ k. k + 1) qs) (map (λ k. k + 1) qs) ≡ cond b (cond c (0 ∷ map (λ k. k + 1) ps) (map (λ k. k + 1) ps) ++ suc n ∷ []) (cond c (0 ∷ map (λ k. k + 1) ps) (map (λ k. k + 1) ps))
add_place b c n ps qs e = ap (λ (rs : List ℕ). cond c (0 ∷ map (λ k. k + 1) rs) (map (λ k. k + 1) rs)) e ∙ go b c
  where
    one : map (λ k. k + 1) (ps ++ n ∷ []) ≡ map (λ k. k + 1) ps ++ suc n ∷ []
    one = map-append (λ k. k + 1) ps (n ∷ []) ∙ ap (λ (m : ℕ). map (λ k. k + 1) ps ++ m ∷ []) (add-one n)

    go : (b c : Bool) → cond c (0 ∷ map (λ k. k + 1) (cond b (ps ++ n ∷ []) ps)) (map (λ k. k + 1) (cond b (ps ++ n ∷ []) ps))
        ≡ cond b (cond c (0 ∷ map (λ k. k + 1) ps) (map (λ k. k + 1) ps) ++ suc n ∷ []) (cond c (0 ∷ map (λ k. k + 1) ps) (map (λ k. k + 1) ps))
    go true true = ap (λ (l : List ℕ). 0 ∷ l) one
    go true false = one
    go false c = refl

places_last : {A : Type 0} (f : A → Bool) (xs : List A) (x : A) → all_places f (xs ++ x ∷ []) ≡ cond (f x) (all_places f xs ++ length xs ∷ []) (all_places f xs)
places_last f [] x = refl
places_last f (y ∷ xs) x = add_place (f x) (f y) (length xs) (all_places f xs) (all_places f (xs ++ x ∷ [])) (places_last f xs x)

-- the places of one element more
pub places_next : {A : Type 0} (f : A → Bool) (xs : List A) (n : ℕ) (x : A) (old new : List ℕ) → n < length xs → x ≡ get_or xs n x
    → new ≡ cond (f x) (old ++ n ∷ []) old → old ≡ all_places f (take n xs) → new ≡ all_places f (take (n + 1) xs)
places_next f xs n x old new lt is put so_far =
    let len : length (take n xs) ≡ n = omega (arith, length-take n xs) in
    let all : all_places f (take (n + 1) xs) ≡ all_places f (take n xs ++ x ∷ []) = ap (all_places f) (take_more xs n x lt ∙ ap (λ y. take n xs ++ y ∷ []) (sym is)) in
    put
    ∙ ap (λ (ps : List ℕ). cond (f x) (ps ++ n ∷ []) ps) so_far
    ∙ ap (λ (m : ℕ). cond (f x) (all_places f (take n xs) ++ m ∷ []) (all_places f (take n xs))) (sym len)
    ∙ sym (places_last f (take n xs) x)
    ∙ sym all
