-- Pieces that are written one after another are the text.
use Rattle.std.proofs.Common.{◌≡◌, ℕ, zero, suc, ◌+◌, ◌<◌, ◌≤◌, List, [], ◌∷◌, ◌++◌, length, drop, get_or, append_assoc, ap, subst, ◌∙◌, sym, arith, add-one}
use Rattle.std.proofs.Math.Seq.{drop-cons}
use Rattle.std.specs.Prelude.{Option, None, option_map, codes}
use Rattle.std.proofs.lemmas.List.{append-nil}
use Rattle.ob_values.specs.declared.value.Value.TheVariants.{Bool as Truth}
use Rattle.ob_values.specs.Spelled.{printed}
use Rattle.ob_object.specs.declared.facet.Facets.{Facets}
use Rattle.ob_object.specs.declared.head.Head.{Head}
use Rattle.ob_object.specs.declared.kind.Kind.{Kind}
use Rattle.ob_object.specs.Object.{Objects, Object, none, node, listed, in_row, in_row-listed, count, parts}
use Rattle.ob_encoding.specs.Names.{kind_name, status_word}
use Rattle.ob_encoding.specs.Canonical.{quoted, facet_attributes, attributes, attributes_text, start_text, end_text, row_text, canonical_text}
use Rattle.ob_encoding.specs.Groups.{names_part, slot_part, lists_part, labels_part, limits_part, meaning_part}

pub meaning_written : (o p q r s t : List ℕ) (f : Facets)
    → p ≡ o ++ quoted (codes " range=\"") f.range
    → q ≡ p ++ quoted (codes " status=\"") (option_map status_word f.status)
    → r ≡ q ++ quoted (codes " tz=\"") f.tz
    → s ≡ r ++ quoted (codes " unit=\"") f.unit
    → t ≡ s ++ quoted (codes " writable=\"") (option_map (λ b. printed (Truth b)) f.writable)
    → t ≡ o ++ attributes_text (meaning_part f)
meaning_written o p q r s t f a b c d e = rw (e, d, c, b, a) (simp (append_assoc, append-nil))

pub facets_written : (o p q r : List ℕ) (f : Facets)
    → p ≡ o ++ attributes_text (labels_part f)
    → q ≡ p ++ attributes_text (limits_part f)
    → r ≡ q ++ attributes_text (meaning_part f)
    → r ≡ o ++ attributes_text (facet_attributes f)
facets_written o p q r f a b c = rw (c, b, a) (simp (append_assoc, append-nil))

pub attributes_written : (o p q r s : List ℕ) (h : Head)
    → p ≡ o ++ attributes_text (names_part h)
    → q ≡ p ++ attributes_text (slot_part h.slot)
    → r ≡ q ++ attributes_text (lists_part h)
    → s ≡ r ++ attributes_text (facet_attributes h.facets)
    → s ≡ o ++ attributes_text (attributes None h)
attributes_written o p q r s h a b c d =
    let facets : List ℕ = attributes_text (facet_attributes h.facets) in
    let parts : (((o ++ attributes_text (names_part h)) ++ attributes_text (slot_part h.slot)) ++ attributes_text (lists_part h)) ++ facets ≡ o ++ attributes_text (attributes None h) = simp (append_assoc, append-nil) in
    d ∙ ap (λ (t : List ℕ). t ++ facets) (c ∙ ap (λ (t : List ℕ). t ++ attributes_text (lists_part h)) (b ∙ ap (λ (t : List ℕ). t ++ attributes_text (slot_part h.slot)) a)) ∙ parts

pub start_written : (o p q r s : List ℕ) (ns : Option (List ℕ)) (h : Head)
    → p ≡ o ++ codes "<"
    → q ≡ p ++ kind_name h.kind
    → r ≡ q ++ quoted (codes " xmlns=\"") ns
    → s ≡ r ++ attributes_text (attributes None h)
    → s ≡ o ++ start_text ns h
start_written o p q r s ns h a b c d =
    let all : List ℕ = attributes_text (attributes None h) in
    let parts : (((o ++ 60 ∷ []) ++ kind_name h.kind) ++ quoted (codes " xmlns=\"") ns) ++ all ≡ o ++ 60 ∷ (kind_name h.kind ++ (quoted (codes " xmlns=\"") ns ++ all)) = pieces o (kind_name h.kind) (quoted (codes " xmlns=\"") ns) all in
    d ∙ ap (λ (t : List ℕ). t ++ all) (c ∙ ap (λ (t : List ℕ). t ++ quoted (codes " xmlns=\"") ns) (b ∙ ap (λ (t : List ℕ). t ++ kind_name h.kind) a)) ∙ parts
  where
    pieces : (o k x y : List ℕ) → (((o ++ 60 ∷ []) ++ k) ++ x) ++ y ≡ o ++ 60 ∷ (k ++ (x ++ y))
    pieces o k x y = simp append_assoc

-- a tag with children, and then its end
pub inner_written : (o p q r : List ℕ) (k : Kind) (kids : List Object) (inner : Objects) → kids ≡ listed inner → 0 < length kids
    → p ≡ o ++ codes ">"
    → q ≡ p ++ row_text (in_row kids)
    → r ≡ q ++ 60 ∷ 47 ∷ (kind_name k ++ 62 ∷ [])
    → r ≡ o ++ end_text k inner (row_text inner)
inner_written o p q r k kids none e some a b c = absurd (omega (arith, ap length e))
inner_written o p q r k kids (node h below rest) e some a b c =
    let row : Objects = node h below rest in
    let same : in_row kids ≡ row = ap in_row e ∙ in_row-listed row in
    let last : List ℕ = 60 ∷ 47 ∷ (kind_name k ++ 62 ∷ []) in
    c ∙ ap (λ (t : List ℕ). t ++ last) (b ∙ ap (λ (x : Objects). p ++ row_text x) same ∙ ap (λ (t : List ℕ). t ++ row_text row) a) ∙ pieces o (row_text row) last
  where
    pieces : (o x y : List ℕ) → ((o ++ 62 ∷ []) ++ x) ++ y ≡ o ++ 62 ∷ (x ++ y)
    pieces o x y = simp append_assoc

pub empty_written : (o p : List ℕ) (k : Kind) (kids : List Object) (inner : Objects) → kids ≡ listed inner → length kids ≡ 0 → p ≡ o ++ codes "/>" → p ≡ o ++ end_text k inner (row_text inner)
empty_written o p k kids none e some a = a
empty_written o p k kids (node h below rest) e some a = absurd (omega (arith, ap length e))

-- a child is written, and those behind it are not
pub next_child : (out new all : List ℕ) (kids : List Object) (i : ℕ) (child : Object) → i < length kids → child ≡ get_or kids i child
    → new ≡ out ++ canonical_text None child
    → out ++ row_text (in_row (drop i kids)) ≡ all
    → new ++ row_text (in_row (drop (i + 1) kids)) ≡ all
next_child out new all kids i child h is w e =
    let rest : List ℕ = row_text (in_row (drop (i + 1) kids)) in
    let parts : drop i kids ≡ child ∷ drop (i + 1) kids = drop-cons kids i child h ∙ ap (λ (o : Object). o ∷ drop (suc i) kids) (sym is) ∙ ap (λ (k : ℕ). child ∷ drop k kids) (sym (add-one i)) in
    ap (λ (t : List ℕ). t ++ rest) w
    ∙ append_assoc out (canonical_text None child) rest
    ∙ ap (λ (os : List Object). out ++ row_text (in_row os)) (sym parts)
    ∙ e

-- a child has no more parts than all children together
pub item_parts : (kids : List Object) (i : ℕ) (d : Object) → i < length kids → parts (get_or kids i d) ≤ count (in_row kids)
item_parts [] i d h = absurd (omega arith)
item_parts (o ∷ os) zero d h = omega arith
item_parts (o ∷ os) (suc i) d h = omega (arith, item_parts os i d (omega arith))

pub child_parts : (kids : List Object) (i : ℕ) (child : Object) → i < length kids → child ≡ get_or kids i child → parts child ≤ count (in_row kids)
child_parts kids i child h is = subst (λ (o : Object). parts o ≤ count (in_row kids)) (sym is) (item_parts kids i child h)

pub row_count : (kids : List Object) (inner : Objects) → kids ≡ listed inner → count (in_row kids) ≡ count inner
row_count kids inner e = ap (λ (os : List Object). count (in_row os)) e ∙ ap count (in_row-listed inner)
