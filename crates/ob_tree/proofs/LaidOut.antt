-- Objects laid out one after another.
use Rattle.std.proofs.Common.{◌≡◌, ℕ, ◌+◌, ◌<◌, ◌≤◌, List, [], ◌∷◌, ◌++◌, length, map, drop, set, get_or, Option, Some, sym, ap, ◌∙◌, append_assoc, arith, length-append}
use Rattle.std.proofs.lemmas.List.{append-nil, map-append, at_drop_more, at_drop_all, set_at}
use Rattle.std.specs.Prelude.{slice_get}
use Rattle.ob_object.specs.declared.head.Head.{Head}
use Rattle.ob_object.specs.Object.{Objects, none, node, Object, count, parts, children, in_row, in_row-listed}
use Rattle.ob_contracts.proofs.At.{fewer_parts}
use Rattle.ob_contracts.proofs.Names.{at_place}
use Rattle.ob_tree.specs.declared.spot.Spot.{Spot}
use Rattle.ob_tree.specs.Laid.{heads, heads_of, leaf, spots, spots_of, spot, width}
use Rattle.ob_tree.proofs.Reading.{length-listed}

-- a child has fewer parts
pub child_smaller : (o : Object) (xs : List Object) (i : ℕ) (x : Object) → xs ≡ children o → i < length xs → x ≡ get_or xs i x → parts x < parts o
child_smaller o xs i x same h is =
    let e : Some x ≡ slice_get (children o) i = at_place xs i x h is ∙ ap (λ (l : List Object). slice_get l i) same in
    fewer_parts o i x e

-- what is left of a list, at a place in it
pub left_at : {Y : Type 0} (F : List Object → Y) (xs : List Object) (i : ℕ) (x : Object) → i < length xs → x ≡ get_or xs i x → F (drop i xs) ≡ F (x ∷ drop (i + 1) xs)
left_at F xs i x h is = at_drop_more F xs i x h ∙ ap (λ (y : Object). F (y ∷ drop (i + 1) xs)) (sym is)

-- An object and those behind it, each without its children.
pub leaves_begin : (old new : List Object) (o : Object) (xs : List Object) → xs ≡ children o → new ≡ old ++ leaf o.head ∷ [] → new ++ map leaf (heads (in_row (drop 0 xs))) ≡ old ++ map leaf (heads_of o)
leaves_begin old new o xs same is =
    ap (λ (l : List Object). l ++ map leaf (heads (in_row xs))) is
    ∙ append_assoc old (leaf o.head ∷ []) (map leaf (heads (in_row xs)))
    ∙ ap (λ (r : Objects). old ++ leaf o.head ∷ map leaf (heads r)) (ap in_row same ∙ in_row-listed o.inner)

pub leaves_next : (old new goal : List Object) (xs : List Object) (i : ℕ) (x : Object) → i < length xs → x ≡ get_or xs i x → new ≡ old ++ map leaf (heads_of x) → old ++ map leaf (heads (in_row (drop i xs))) ≡ goal
    → new ++ map leaf (heads (in_row (drop (i + 1) xs))) ≡ goal
leaves_next old new goal xs i x h is e w =
    let behind : List Head = heads (in_row (drop (i + 1) xs)) in
    ap (λ (l : List Object). l ++ map leaf behind) e
    ∙ append_assoc old (map leaf (heads_of x)) (map leaf behind)
    ∙ ap (λ (l : List Object). old ++ l) (sym (map-append leaf (heads_of x) behind))
    ∙ sym (left_at (λ (l : List Object). old ++ map leaf (heads (in_row l))) xs i x h is)
    ∙ w

pub leaves_end : (new goal : List Object) (xs : List Object) (i : ℕ) → length xs ≤ i → new ++ map leaf (heads (in_row (drop i xs))) ≡ goal → new ≡ goal
leaves_end new goal xs i h w =
    sym (append-nil new) ∙ sym (at_drop_all (λ (l : List Object). new ++ map leaf (heads (in_row l))) xs i h) ∙ w

pub length-spots : (at : ℕ) (p : Option ℕ) (r : Objects) → length (spots at p r) ≡ count r
length-spots at p none = omega arith
length-spots at p (node h inner rest) =
    omega (arith, length-append (spots (at + 1) (Some at) inner) (spots (at + (count inner + 1)) p rest), length-spots (at + 1) (Some at) inner, length-spots (at + (count inner + 1)) p rest)

-- Where an object and those behind it stand.
pub spots_begin : (old new : List Spot) (at : ℕ) (s : Spot) (o : Object) (xs : List Object) → at ≡ length old → xs ≡ children o → new ≡ old ++ s ∷ []
    → new ++ spots (length new) (Some at) (in_row (drop 0 xs)) ≡ old ++ s ∷ spots (at + 1) (Some at) o.inner
spots_begin old new at s o xs here same is =
    let n : length new ≡ at + 1 = ap length is ∙ omega (arith, length-append old (s ∷ [])) in
    ap (λ (k : ℕ). new ++ spots k (Some at) (in_row xs)) n
    ∙ ap (λ (l : List Spot). l ++ spots (at + 1) (Some at) (in_row xs)) is
    ∙ append_assoc old (s ∷ []) (spots (at + 1) (Some at) (in_row xs))
    ∙ ap (λ (r : Objects). old ++ s ∷ spots (at + 1) (Some at) r) (ap in_row same ∙ in_row-listed o.inner)

pub spots_next : (old new goal : List Spot) (p : Option ℕ) (xs : List Object) (i : ℕ) (x : Object) → i < length xs → x ≡ get_or xs i x → new ≡ old ++ spots_of (length old) p x
    → old ++ spots (length old) p (in_row (drop i xs)) ≡ goal → new ++ spots (length new) p (in_row (drop (i + 1) xs)) ≡ goal
spots_next old new goal p xs i x h is e w =
    let n : length new ≡ length old + (count x.inner + 1) = ap length e ∙ omega (arith, length-append old (spots_of (length old) p x), length-spots (length old + 1) (Some (length old)) x.inner) in
    ap (λ (k : ℕ). new ++ spots k p (in_row (drop (i + 1) xs))) n
    ∙ ap (λ (l : List Spot). l ++ spots (length old + (count x.inner + 1)) p (in_row (drop (i + 1) xs))) e
    ∙ append_assoc old (spots_of (length old) p x) (spots (length old + (count x.inner + 1)) p (in_row (drop (i + 1) xs)))
    ∙ sym (left_at (λ (l : List Object). old ++ spots (length old) p (in_row l)) xs i x h is)
    ∙ w

pub spots_end : (new goal : List Spot) (p : Option ℕ) (xs : List Object) (i : ℕ) → length xs ≤ i → new ++ spots (length new) p (in_row (drop i xs)) ≡ goal → new ≡ goal
spots_end new goal p xs i h w =
    sym (append-nil new) ∙ sym (at_drop_all (λ (l : List Object). new ++ spots (length new) p (in_row l)) xs i h) ∙ w

same_spot : (p : Option ℕ) (len end at : ℕ) (inner : Objects) → len ≡ width inner → end ≡ at + (count inner + 1) → (let x : Spot = record { parent = p; len = len; end = end } in x) ≡ spot at p inner
same_spot p len end at inner e f =
    ap (λ (k : ℕ). let x : Spot = record { parent = p; len = k; end = end } in x) e ∙ ap (λ (k : ℕ). let x : Spot = record { parent = p; len = width inner; end = k } in x) f

-- The first spot is told its end.
pub spots_whole : (old new : List Spot) (at len end : ℕ) (p : Option ℕ) (s : Spot) (o : Object) → at ≡ length old → len ≡ length (children o) → new ≡ old ++ s ∷ spots (at + 1) (Some at) o.inner → end ≡ length new
    → set new at (record { parent = p; len = len; end = end }) ≡ old ++ spots_of (length old) p o
spots_whole old new at len end p s o here few is count_is =
    let x : Spot = record { parent = p; len = len; end = end } in
    let whole : end ≡ at + (count o.inner + 1) = count_is ∙ ap length is ∙ omega (arith, length-append old (s ∷ spots (at + 1) (Some at) o.inner), length-spots (at + 1) (Some at) o.inner) in
    ap (λ (l : List Spot). set l at x) is
    ∙ set_at old s (spots (at + 1) (Some at) o.inner) x at (sym here)
    ∙ ap (λ (y : Spot). old ++ y ∷ spots (at + 1) (Some at) o.inner) (same_spot p len end at o.inner (few ∙ length-listed o.inner) whole)
    ∙ ap (λ (k : ℕ). old ++ spots_of k p o) here
