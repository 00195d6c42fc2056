-- Objects in hand, part by part.
use Rattle.std.proofs.Common.{◌≡◌, ℕ, suc, zero, ◌+◌, ◌<◌, ◌≤◌, List, [], ◌∷◌, length, drop, Option, sym, ap, ◌∙◌, subst, arith, drop-cons, add-one}
use Rattle.std.specs.Prelude.{get_or}
use Rattle.std.specs.List.{AllByRecursion}
use Rattle.ob_object.specs.Object.{Objects, none, node, Object, count, parts, in_row, listed, in_row-listed}
use Rattle.ob_documents.specs.Carried.{IsTextIfThere, IsHeadCarried, IsRowCarried, IsCarried}
use Rattle.ob_documents.specs.Held.{IsHeld, IsRowHeld, IsShallow}

row_carried : (level : ℕ) (row : Objects) → IsRowHeld row → IsShallow level row → IsRowCarried level row
row_carried level none h s = tt
row_carried level (node g below rest) h s = (s.0, h.0, row_carried (suc level) below h.1 s.1, row_carried level rest h.2 s.2)

pub held_carried : (ns : Option (List ℕ)) (o : Object) → IsTextIfThere ns → IsHeld o → IsShallow 1 o.inner → IsCarried ns o
held_carried ns o n h s = record { namespace = n; well_formed = h.well_formed; head = h.head; row = row_carried 1 o.inner h.row s }

-- ---- one after another

pub cut : {A : Type 0} (xs : List A) (i : ℕ) (x : A) → i < length xs → x ≡ get_or xs i x → drop i xs ≡ x ∷ drop (i + 1) xs
cut xs i x h is = drop-cons xs i x h ∙ ap (λ y. y ∷ drop (suc i) xs) (sym is) ∙ ap (λ (k : ℕ). x ∷ drop k xs) (sym (add-one i))

pub next_word : (P : List ℕ → Type 0) (ws : List (List ℕ)) (i : ℕ) (w : List ℕ) → i < length ws → w ≡ get_or ws i w → P w
    → (AllByRecursion P (drop i ws) → AllByRecursion P ws) → AllByRecursion P (drop (i + 1) ws) → AllByRecursion P ws
next_word P ws i w h is p all rest = all (subst (AllByRecursion P) (sym (cut ws i w h is)) (p, rest))

pub next_object : (os : List Object) (i : ℕ) (o : Object) → i < length os → o ≡ get_or os i o → IsHeadCarried o.head → IsRowHeld o.inner
    → (IsRowHeld (in_row (drop i os)) → IsRowHeld (in_row os)) → IsRowHeld (in_row (drop (i + 1) os)) → IsRowHeld (in_row os)
next_object os i o h is head row all rest = all (subst (λ (l : List Object). IsRowHeld (in_row l)) (sym (cut os i o h is)) (head, row, rest))

item_parts : (kids : List Object) (i : ℕ) (d : Object) → i < length kids → parts (get_or kids i d) ≤ count (in_row kids)
item_parts [] i d h = absurd (omega arith)
item_parts (o ∷ os) zero d h = omega arith
item_parts (o ∷ os) (suc i) d h = omega (arith, item_parts os i d (omega arith))

pub child_parts : (kids : List Object) (i : ℕ) (child : Object) → i < length kids → child ≡ get_or kids i child → parts child ≤ count (in_row kids)
child_parts kids i child h is = subst (λ (o : Object). parts o ≤ count (in_row kids)) (sym is) (item_parts kids i child h)

pub row_of : (kids : List Object) (inner : Objects) → kids ≡ listed inner → IsRowHeld (in_row kids) → IsRowHeld inner
row_of kids inner e h = subst IsRowHeld (ap in_row e ∙ in_row-listed inner) h
