-- The names of an element's children, with one child more.
use Rattle.std.proofs.Common.{◌≡◌, ℕ, Bool, true, false, ◌||◌, cond, List, [], ◌∷◌, ◌++◌, Option, Some, None, refl, sym, ap, subst, ◌∙◌}
use Rattle.std.specs.Prelude.{is_some}
use Rattle.std.specs.Str.{bytes_eq}
use Rattle.std.specs.Ordering.{nat_cmp, eq_by_cmp}
use Rattle.std.specs.Cmp.Lexicographic.{slice_cmp, nat_list_cmp_total}
use Rattle.std.specs.FinSet as set
use Rattle.std.proofs.lemmas.Map.Text.{is_eq-slice_cmp}
use Rattle.std.proofs.lemmas.Slice.Eq.{bytes_eq-Decides}
use Rattle.ob_values.proofs.Bools.{or_false}
use Rattle.ob_object.specs.Object.{Object, children, listed-in_row}
use Rattle.ob_object.specs.WellFormed.{has_name, named, is_taken, with_child}
use Rattle.ob_xml.specs.Indexes.{NameSet, IsIndex, with_name}

-- a name is taken where it was, or is that of the last
pub taken_last : (n : List ℕ) (os : List Object) (o : Object) → is_taken (Some n) (os ++ o ∷ []) ≡ (is_taken (Some n) os || has_name n o.head.name)
taken_last n [] o = elim (has_name n o.head.name) as (λ v. is_some (cond v (Some o) None) ≡ v) [ true ↦ refl | false ↦ refl ]
taken_last n (x ∷ os) o = elim (has_name n x.head.name) as (λ v. is_some (cond v (Some x) (named n (os ++ o ∷ []))) ≡ (is_some (cond v (Some x) (named n os)) || has_name n o.head.name)) [
  | true ↦ refl
  | false ↦ taken_last n os o
]

or_swap : (a b : Bool) → (a || b) ≡ (b || a)
or_swap true true = refl
or_swap true false = refl
or_swap false true = refl
or_swap false false = refl

same_swap : (a b : List ℕ) → bytes_eq a b ≡ bytes_eq b a
same_swap a b = on (bytes_eq a b) (bytes_eq b a) refl refl
  where
    on : (v w : Bool) → bytes_eq a b ≡ v → bytes_eq b a ≡ w → v ≡ w
    on true true p q = refl
    on false false p q = refl
    on true false p q = sym ((bytes_eq-Decides b a).1 (sym ((bytes_eq-Decides a b).0 p))) ∙ q
    on false true p q = sym p ∙ (bytes_eq-Decides a b).1 (sym ((bytes_eq-Decides b a).0 q))

pub index_more : (names : NameSet) (os : List Object) (o : Object) (name : List ℕ) → IsIndex names os → o.head.name ≡ Some name → IsIndex (set.insert names name) (os ++ o ∷ [])
index_more names os o name h e n =
    set.contains-insert nat_list_cmp_total names name n
    ∙ ap (λ (b : Bool). eq_by_cmp (slice_cmp nat_cmp) n name || b) (h n)
    ∙ or_swap (eq_by_cmp (slice_cmp nat_cmp) n name) (is_taken (Some n) os)
    ∙ ap (λ (b : Bool). is_taken (Some n) os || b) (is_eq-slice_cmp n name ∙ same_swap n name ∙ ap (has_name n) (sym e))
    ∙ sym (taken_last n os o)

pub index_same : (names : NameSet) (os : List Object) (o : Object) → IsIndex names os → o.head.name ≡ None → IsIndex names (os ++ o ∷ [])
index_same names os o h e n = h n ∙ sym (or_false (is_taken (Some n) os)) ∙ ap (λ (m : Option (List ℕ)). is_taken (Some n) os || has_name n m) (sym e) ∙ sym (taken_last n os o)

pub index_child : (names : NameSet) (o c : Object) → IsIndex names (children o ++ c ∷ []) → IsIndex names (children (with_child o c))
index_child names o c h = subst (IsIndex names) (sym (listed-in_row (children o ++ c ∷ []))) h

pub index_with : (names : NameSet) (o c : Object) → IsIndex names (children o) → IsIndex (with_name c.head.name names) (children (with_child o c))
index_with names o c h = index_child (with_name c.head.name names) o c (by_name c.head.name refl)
  where
    by_name : (m : Option (List ℕ)) → c.head.name ≡ m → IsIndex (with_name m names) (children o ++ c ∷ [])
    by_name None e = index_same names (children o) c h e
    by_name (Some name) e = index_more names (children o) c name h e

pub index_none : IsIndex set.empty []
index_none n = set.contains-empty (slice_cmp nat_cmp) n
