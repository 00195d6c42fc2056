-- Lines, one after the other.
use Rattle.std.proofs.Common.{◌≡◌, ℕ, zero, suc, ◌+◌, ◌<◌, true, false, cond, List, [], ◌∷◌, ◌++◌, length, take, get_or, Some, None, refl, sym, ap, ◌∙◌, append_assoc, append-nil, add-one, arith}
use Rattle.std.specs.Prelude.{slice_get, option_map}
use Rattle.std.specs.List.{filter}
use Rattle.std.proofs.lemmas.List.{take_more}
use Rattle.std.proofs.lemmas.List.Elements.{filter-append}
use Rattle.ob_object.specs.Object.{Object}
use Rattle.ob_watching.specs.WatchOuts.{Held}
use Rattle.ob_client.specs.Entries.{is_err}
use Rattle.ob_client.specs.Shown.{shown}
use Rattle.ob_dialogue.specs.Printing.{line, lines_of, items_text}

items_next : (hs : List Held) (i : ℕ) (o : Object) → Some o ≡ option_map shown (slice_get hs i) → items_text (take i hs) ++ line o ≡ items_text (take (suc i) hs)
items_next [] i o h = absurd (let e : Some o ≡ None = h in cc)
items_next (x ∷ hs) zero o h =
    let same : o ≡ shown x = cc in
    ap line same ∙ sym (append-nil (line (shown x)))
items_next (x ∷ hs) (suc i) o h = append_assoc (line (shown x)) (items_text (take i hs)) (line o) ∙ ap (λ (t : List ℕ). line (shown x) ++ t) (items_next hs i o h)

-- a line more
pub items_more : (hs : List Held) (i : ℕ) (o : Object) → Some o ≡ option_map shown (slice_get hs i) → items_text (take i hs) ++ line o ≡ items_text (take (i + 1) hs)
items_more hs i o h = items_next hs i o h ∙ ap (λ (n : ℕ). items_text (take n hs)) (sym (add-one i))

-- there is a line at each place
pub items_there : (hs : List Held) (i : ℕ) → i < length hs → None ≡ option_map shown (slice_get hs i) → ⊥
items_there [] i lt h = omega (arith, lt)
items_there (x ∷ hs) zero lt h = let e : None ≡ Some (shown x) = h in cc
items_there (x ∷ hs) (suc i) lt h = items_there hs i (omega arith) h

abbrev none_of : List Object
none_of = []

lines_then : (os ps : List Object) → lines_of (os ++ ps) ≡ lines_of os ++ lines_of ps
lines_then [] ps = refl
lines_then (o ∷ os) ps = ap (λ (t : List ℕ). line o ++ t) (lines_then os ps) ∙ sym (append_assoc (line o) (lines_of os) (lines_of ps))

-- an err more
pub errs_more : (es : List Object) (i : ℕ) (e : Object) → i < length es → e ≡ get_or es i e → is_err e ≡ true → lines_of (filter is_err (take i es)) ++ line e ≡ lines_of (filter is_err (take (i + 1) es))
errs_more es i e lt at err =
    let kept : filter is_err (e ∷ []) ≡ e ∷ [] = ap (λ b. cond b (e ∷ []) []) err in
    ap (λ (t : List ℕ). lines_of (filter is_err (take i es)) ++ t) (sym (append-nil (line e)) ∙ sym (ap lines_of kept))
    ∙ sym (lines_then (filter is_err (take i es)) (filter is_err (e ∷ [])))
    ∙ ap lines_of (sym (filter-append is_err (take i es) (e ∷ [])) ∙ ap (λ (x : Object). filter is_err (take i es ++ x ∷ [])) at ∙ sym (ap (filter is_err) (take_more es i e lt)))

-- an entry that is passed over
pub errs_same : (es : List Object) (i : ℕ) (e : Object) → i < length es → e ≡ get_or es i e → is_err e ≡ false → lines_of (filter is_err (take i es)) ≡ lines_of (filter is_err (take (i + 1) es))
errs_same es i e lt at other =
    let gone : filter is_err (e ∷ []) ≡ none_of = ap (λ b. cond b (e ∷ []) none_of) other in
    ap lines_of (sym (append-nil (filter is_err (take i es))) ∙ ap (λ (os : List Object). filter is_err (take i es) ++ os) (sym gone)
    ∙ sym (filter-append is_err (take i es) (e ∷ [])) ∙ ap (λ (x : Object). filter is_err (take i es ++ x ∷ [])) at ∙ sym (ap (filter is_err) (take_more es i e lt)))
