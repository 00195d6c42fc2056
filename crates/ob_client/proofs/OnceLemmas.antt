-- Hrefs that stand once.
use Rattle.std.proofs.Common.{◌≡◌, ℕ, zero, suc, ◌+◌, ◌<◌, ◌≤◌, Bool, true, false, cond, not, ◌&&◌, ◌||◌, List, [], ◌∷◌, ◌++◌, map, length, drop, take, get_or, refl, sym, ap, subst, ◌∙◌, arith, drop-cons, add-one, Bor}
use Rattle.std.specs.BTreeSet.{BTreeSet, Updates, contains_by}
use Rattle.std.specs.Cmp.Lexicographic.{slice_cmp}
use Rattle.std.specs.List.{list_all}
use Rattle.std.specs.Ordering.{nat_cmp}
use Rattle.std.specs.Str.{bytes_eq}
use Rattle.std.proofs.lemmas.Map.Text.{is_eq-slice_cmp}
use Rattle.ob_object.specs.Object.{Object}
use Rattle.ob_watching.specs.Tables.{is_among}
use Rattle.ob_watching.specs.WatchOuts.{Text}
use Rattle.ob_client.specs.Entries.{text_of, each_once}
use Rattle.ob_client.proofs.TableLemmas.{bytes_eq_sym}

-- no text stands before among these, nor twice
abbrev pub stand_once : List Text → List Text → Bool
stand_once seen [] = true
stand_once seen (t ∷ ts) = not (is_among bytes_eq seen t) && stand_once (seen ++ t ∷ []) ts

abbrev pub all_new : List Text → List Text → Bool
all_new seen ts = list_all (λ t. not (is_among bytes_eq seen t)) ts

among_more : (seen : List Text) (t u : Text) → is_among bytes_eq (seen ++ t ∷ []) u ≡ (is_among bytes_eq seen u || bytes_eq t u)
among_more [] t u = go (bytes_eq u t) (bytes_eq t u) (bytes_eq_sym u t)
  where
    go : (a b : Bool) → a ≡ b → (a || false) ≡ (false || b)
    go true b e = e
    go false b e = e
among_more (s ∷ seen) t u = go (bytes_eq u s) (among_more seen t u)
  where
    go : (a : Bool) → is_among bytes_eq (seen ++ t ∷ []) u ≡ (is_among bytes_eq seen u || bytes_eq t u) → (a || is_among bytes_eq (seen ++ t ∷ []) u) ≡ ((a || is_among bytes_eq seen u) || bytes_eq t u)
    go true e = refl
    go false e = e

all_more : (seen : List Text) (t : Text) (ts : List Text) → all_new (seen ++ t ∷ []) ts ≡ (all_new seen ts && not (is_among bytes_eq ts t))
all_more seen t [] = refl
all_more seen t (u ∷ ts) =
    ap (λ b. not b && all_new (seen ++ t ∷ []) ts) (among_more seen t u)
    ∙ ap (λ b. not (is_among bytes_eq seen u || bytes_eq t u) && b) (all_more seen t ts)
    ∙ go (is_among bytes_eq seen u) (bytes_eq t u) (all_new seen ts) (is_among bytes_eq ts t)
  where
    go : (a b c d : Bool) → (not (a || b) && (c && not d)) ≡ ((not a && c) && not (b || d))
    go true b c d = refl
    go false true true d = refl
    go false true false d = refl
    go false false true d = refl
    go false false false d = refl

pub stands_once : (seen ts : List Text) → stand_once seen ts ≡ (all_new seen ts && each_once ts)
stands_once seen [] = refl
stands_once seen (t ∷ ts) =
    ap (λ b. not (is_among bytes_eq seen t) && b) (stands_once (seen ++ t ∷ []) ts ∙ ap (λ b. b && each_once ts) (all_more seen t ts))
    ∙ go (is_among bytes_eq seen t) (all_new seen ts) (is_among bytes_eq ts t) (each_once ts)
  where
    go : (a c d e : Bool) → (not a && ((c && not d) && e)) ≡ ((not a && c) && (not d && e))
    go true c d e = refl
    go false true d e = refl
    go false false d e = refl

all_new_none : (ts : List Text) → all_new [] ts ≡ true
all_new_none [] = refl
all_new_none (t ∷ ts) = all_new_none ts

pub once_none : (ts : List Text) → stand_once [] ts ≡ each_once ts
once_none ts = stands_once [] ts ∙ ap (λ b. b && each_once ts) (all_new_none ts)

pub left_new : (a b : Bool) → (not a && b) ≡ true → a ≡ false
left_new true b h = sym h
left_new false b h = refl

pub right_once : (a b : Bool) → (not a && b) ≡ true → b ≡ true
right_once true b h = absurd (let e : false ≡ true = h in cc)
right_once false b h = h

-- ---- the loop over the entries

abbrev pub Seen : Type 0
Seen = BTreeSet (Bor (List ℕ))

-- the set has exactly these texts
abbrev pub HasTexts : Seen → List Text → Type 0
HasTexts set seen = (t : Text) → contains_by (λ k. slice_cmp nat_cmp t k.now) set ≡ is_among bytes_eq seen t

or_true : (b m : Bool) → cond b true m ≡ (m || b)
or_true true true = refl
or_true true false = refl
or_true false true = refl
or_true false false = refl

-- an insert adds its text
pub has_more : (old new : Seen) (key : Bor (List ℕ)) (seen : List Text) → Updates (λ x y. slice_cmp nat_cmp x.now y.now) old new key true → HasTexts old seen → HasTexts new (seen ++ key.now ∷ [])
has_more old new key seen up has t =
    up.0 (record { ref_ptr = (0, 0); now = t })
    ∙ ap (λ b. cond b true (contains_by (λ k. slice_cmp nat_cmp t k.now) old)) (is_eq-slice_cmp key.now t)
    ∙ or_true (bytes_eq key.now t) (contains_by (λ k. slice_cmp nat_cmp t k.now) old)
    ∙ ap (λ b. b || bytes_eq key.now t) (has t)
    ∙ sym (among_more seen key.now t)

-- one entry more is looked at
once_step : (es : List Object) (i : ℕ) (e : Object) (seen : List Text) (t : Text) → i < length es → e ≡ get_or es i e → t ≡ text_of e → stand_once seen (map text_of (drop i es)) ≡ (not (is_among bytes_eq seen t) && stand_once (seen ++ t ∷ []) (map text_of (drop (i + 1) es)))
once_step es i e seen t lt at is =
    ap (λ (xs : List Object). stand_once seen (map text_of xs)) (drop-cons es i e lt ∙ ap (λ (k : ℕ). get_or es i e ∷ drop k es) (sym (add-one i)) ∙ ap (λ (x : Object). x ∷ drop (i + 1) es) (sym at))
    ∙ ap (λ (u : Text). not (is_among bytes_eq seen u) && stand_once (seen ++ u ∷ []) (map text_of (drop (i + 1) es))) (sym is)

-- where its href stands before
pub once_stops : (es : List Object) (i : ℕ) (e : Object) (seen : List Text) (t : Text) → i < length es → e ≡ get_or es i e → t ≡ text_of e
    → is_among bytes_eq seen t ≡ true → stand_once seen (map text_of (drop i es)) ≡ false
once_stops es i e seen t lt at is there =
    once_step es i e seen t lt at is ∙ ap (λ b. not b && stand_once (seen ++ t ∷ []) (map text_of (drop (i + 1) es))) there

texts_more : (es : List Object) (i : ℕ) (e : Object) (t : Text) → i < length es → e ≡ get_or es i e → t ≡ text_of e → map text_of (take (i + 1) es) ≡ map text_of (take i es) ++ t ∷ []
texts_more es i e t lt at is =
    ap (λ n. map text_of (take n es)) (add-one i) ∙ go es i lt at
  where
    go : (xs : List Object) (n : ℕ) → n < length xs → e ≡ get_or xs n e → map text_of (take (suc n) xs) ≡ map text_of (take n xs) ++ t ∷ []
    go [] n lt at = absurd (omega (arith, lt))
    go (x ∷ xs) zero lt at = ap (λ (u : Text). u ∷ []) (sym (is ∙ ap text_of at))
    go (x ∷ xs) (suc n) lt at = ap (λ (ts : List Text). text_of x ∷ ts) (go xs n (omega (arith, lt)) at)

-- and where it doesn't
pub once_goes_on : (es : List Object) (i : ℕ) (e : Object) (t : Text) → i < length es → e ≡ get_or es i e → t ≡ text_of e
    → is_among bytes_eq (map text_of (take i es)) t ≡ false → stand_once (map text_of (take i es)) (map text_of (drop i es)) ≡ stand_once (map text_of (take (i + 1) es)) (map text_of (drop (i + 1) es))
once_goes_on es i e t lt at is there =
    once_step es i e (map text_of (take i es)) t lt at is
    ∙ ap (λ b. not b && stand_once (map text_of (take i es) ++ t ∷ []) (map text_of (drop (i + 1) es))) there
    ∙ sym (ap (λ (us : List Text). stand_once us (map text_of (drop (i + 1) es))) (texts_more es i e t lt at is))

pub has_next : (old new : Seen) (key : Bor (List ℕ)) (es : List Object) (i : ℕ) (e : Object) → i < length es → e ≡ get_or es i e → key.now ≡ text_of e
    → Updates (λ x y. slice_cmp nat_cmp x.now y.now) old new key true → HasTexts old (map text_of (take i es)) → HasTexts new (map text_of (take (i + 1) es))
has_next old new key es i e lt at is up has =
    subst (HasTexts new) (sym (texts_more es i e key.now lt at is)) (has_more old new key (map text_of (take i es)) up has)

-- what an insert tells
pub there_of : (a new : Bool) → new ≡ not a → new ≡ false → a ≡ true
there_of true new h e = refl
there_of false new h e = absurd (let f : true ≡ false = sym h ∙ e in cc)

pub new_of : (a new : Bool) → new ≡ not a → new ≡ true → a ≡ false
new_of true new h e = absurd (let f : false ≡ true = sym h ∙ e in cc)
new_of false new h e = refl

abbrev no_objects : List Object
no_objects = []

-- at the end of the entries
pub once_ends : (es : List Object) (i : ℕ) (seen : List Text) → length es ≤ i → stand_once seen (map text_of (drop i es)) ≡ true
once_ends [] i seen h = ap (λ (xs : List Object). stand_once seen (map text_of xs)) (drop_none i)
  where
    drop_none : (n : ℕ) → drop n no_objects ≡ no_objects
    drop_none zero = refl
    drop_none (suc n) = refl
once_ends (e ∷ es) zero seen h = absurd (omega arith)
once_ends (e ∷ es) (suc i) seen h = once_ends es i seen (omega arith)
