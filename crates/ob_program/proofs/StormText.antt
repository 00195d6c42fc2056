-- The text of the storm's site is the canonical text of its root, and so it spells it.
use Rattle.std.proofs.Common.{◌≡◌, ℕ, zero, suc, ◌+◌, ◌<◌, ◌^◌, Bool, true, ◌&&◌, List, [], ◌∷◌, length, Option, Some, None, refl, subst, arith, inl}
use Rattle.std.specs.Prelude.{pos, codes}
use Rattle.std.specs.Fmt.{digits}
use Rattle.ob_values.specs.declared.value.Value.TheVariants as value
use Rattle.ob_values.specs.XmlText.{IsXmlText, is_printable}
use Rattle.ob_values.proofs.PrintedLemmas.{spelled_integer}
use Rattle.ob_values.proofs.XmlTextLemmas.{printable_xml}
use Rattle.ob_values.proofs.Bools.{both_true}
use Rattle.ob_object.specs.declared.kind.Kind.{Kind}
use Rattle.ob_object.specs.declared.kind.Kind.TheVariants as kind
use Rattle.ob_object.specs.declared.head.Slot.{Slot}
use Rattle.ob_object.specs.declared.head.Slot.TheVariants.{Absent, Is}
use Rattle.ob_object.specs.declared.head.Head.{Head}
use Rattle.ob_object.specs.Object.{Objects, empty_head, listed, in_row}
use Rattle.ob_object.specs.WellFormed.{NamesDiffer, RowIsWellFormed}
use Rattle.ob_encoding.specs.Canonical.{canonical_text}
use Rattle.ob_documents.specs.Carried.{IsTextIfThere, AreTextsIfThere, IsWritten, IsSlotWritten, IsHeadCarried, IsRowCarried, IsCarried}
use Rattle.ob_documents.specs.Spelling.{Spells}
use Rattle.ob_documents.proofs.SpelledTexts.{text_spells}
use Rattle.ob_site_rules.specs.Build.{valued, number_slot, ref_to}
use Rattle.ob_storm.specs.Site.{site_of, site_text}
use Rattle.ob_program.proofs.StormRoot.{point_href, point, points, history, alarms, root}

text_is : canonical_text None (root 100) ≡ site_text
unfolding digits site_of
text_is = refl

length_is : length (canonical_text None (root 100)) ≡ 8_634
unfolding digits
length_is = refl

-- ---- each text and value can be carried

-- the hrefs of so many points from this one on are printable
abbrev are_printable : ℕ → ℕ → Bool
are_printable k zero = true
are_printable k (suc n) = is_printable (point_href k) && are_printable (k + 1) n

all_printable : are_printable 0 100 ≡ true
unfolding digits
all_printable = refl

written : (n : ℕ) → n < 2 ^ 63 → IsWritten (value.Int (pos n))
written n h = (spelled_integer (pos n) (omega (arith, h)), record { sfits = h })

point_carried : (k : ℕ) → is_printable (point_href k) ≡ true → IsHeadCarried (point k)
point_carried k h = record {
  name = tt;
  href = printable_xml (point_href k) h;
  is = (printable_xml (codes "obix:WritablePoint") refl, tt);
  of = tt;
  input = tt;
  output = tt;
  slot = written 0 (omega arith);
  display = tt;
  display_name = tt;
  icon = tt;
  max = written 999 (omega arith);
  min = written 0 (omega arith);
  precision = tt;
  range = tt;
  tz = tt;
  unit = tt;
}

-- a head without facets
abbrev plain : Kind → (name href : Option (List ℕ)) → Option (List (List ℕ)) → Slot → Head
plain k name href is slot = record (empty_head k) { name = name; href = href; is = is; slot = slot }

plain_carried : (k : Kind) (name href : Option (List ℕ)) (is : Option (List (List ℕ))) (slot : Slot) → IsTextIfThere name → IsTextIfThere href → AreTextsIfThere is → IsSlotWritten slot
    → IsHeadCarried (plain k name href is slot)
plain_carried k name href is slot n h w s = record {
  name = n;
  href = h;
  is = w;
  of = tt;
  input = tt;
  output = tt;
  slot = s;
  display = tt;
  display_name = tt;
  icon = tt;
  max = tt;
  min = tt;
  precision = tt;
  range = tt;
  tz = tt;
  unit = tt;
}

xml : (t : List ℕ) → is_printable t ≡ true → IsXmlText t
xml t h = printable_xml t h

-- a child of a name, with this value
valued_carried : (k : Kind) (name : List ℕ) (slot : Slot) → is_printable name ≡ true → IsSlotWritten slot → IsHeadCarried (plain k (Some name) None None slot)
valued_carried k name slot n s = plain_carried k (Some name) None None slot (xml name n) tt tt s

source_carried : (href : List ℕ) → is_printable href ≡ true → IsHeadCarried (plain kind.Ref (Some (codes "source")) (Some href) None Absent)
source_carried href h = plain_carried kind.Ref (Some (codes "source")) (Some href) None Absent (xml (codes "source") refl) (xml href h) tt tt

node_carried : (name word : List ℕ) → is_printable name ≡ true → is_printable word ≡ true → IsHeadCarried (plain kind.Obj (Some name) (Some name) (Some (word ∷ [])) Absent)
node_carried name word n w = plain_carried kind.Obj (Some name) (Some name) (Some (word ∷ [])) Absent (xml name n) (xml name n) (xml word w, tt) tt

abbrev rest : Objects
rest = in_row (history ∷ alarms ∷ [])

-- the source and the limits of the rule
abbrev rule_row : Objects
rule_row =
    in_row (ref_to (codes "source") (codes "p1") None ∷ valued kind.Int (codes "low") (number_slot 100) ∷ valued kind.Int (codes "high") (number_slot 899) ∷ valued kind.Bool (codes "needsAck") (Is (value.Bool true)) ∷ [])

rule_carried : IsRowCarried 4 rule_row
rule_carried = (
  omega arith,
  source_carried (codes "p1") refl,
  tt,
  (
    omega arith,
    valued_carried kind.Int (codes "low") (number_slot 100) refl (written 100 (omega arith)),
    tt,
    (
      omega arith,
      valued_carried kind.Int (codes "high") (number_slot 899) refl (written 899 (omega arith)),
      tt,
      (omega arith, valued_carried kind.Bool (codes "needsAck") (Is (value.Bool true)) refl (inl refl), tt, tt),
    ),
  ),
)

rest_carried : IsRowCarried 1 rest
rest_carried = (
  omega arith,
  node_carried (codes "h") (codes "obix:History") refl refl,
  (omega arith, source_carried (codes "p0") refl, tt, tt),
  (
    omega arith,
    node_carried (codes "alarms") (codes "obix:AlarmSubject") refl refl,
    (omega arith, valued_carried kind.List (codes "rules") Absent refl tt, (omega arith, plain_carried kind.Obj None None None Absent tt tt tt tt, rule_carried, tt), tt),
    tt,
  ),
)

points_carried : (n k : ℕ) (others : Objects) → are_printable k n ≡ true → IsRowCarried 1 others → IsRowCarried 1 (points k n others)
points_carried zero k others h c = c
points_carried (suc n) k others h c =
    let each = both_true (is_printable (point_href k)) (are_printable (k + 1) n) h in
    (omega arith, point_carried k each.0, tt, points_carried n (k + 1) others each.1 c)

-- ---- it is well formed

points_differ : (n k : ℕ) (others : Objects) → NamesDiffer (listed others) → NamesDiffer (listed (points k n others))
points_differ zero k others d = d
points_differ (suc n) k others d = (refl, points_differ n (k + 1) others d)

points_formed : (n k : ℕ) (others : Objects) → RowIsWellFormed others → RowIsWellFormed (points k n others)
points_formed zero k others f = f
points_formed (suc n) k others f = (refl, tt, tt, points_formed n (k + 1) others f)

rule_formed : RowIsWellFormed rule_row
rule_formed = (refl, tt, tt, (refl, tt, tt, (refl, tt, tt, (refl, tt, tt, tt))))

rest_formed : RowIsWellFormed rest
rest_formed = (refl, (refl, tt), (refl, tt, tt, tt), (refl, (refl, tt), (refl, (refl, tt), (refl, (refl, (refl, (refl, (refl, tt)))), rule_formed, tt), tt), tt))

carried : IsCarried None (root 100)
carried = record {
  namespace = tt;
  well_formed = record { head_fits = refl; names_differ = points_differ 100 0 rest (refl, (refl, tt)); row = points_formed 100 0 rest rest_formed };
  head = plain_carried kind.Obj None (Some (codes "http://h/obix/")) (Some (codes "obix:Lobby" ∷ [])) Absent tt (xml (codes "http://h/obix/") refl) (xml (codes "obix:Lobby") refl, tt) tt;
  row = points_carried 100 0 rest all_printable rest_carried;
}

-- ---- so it spells the root

pub spells : Spells site_text None (root 100)
spells = subst (λ (t : List ℕ). Spells t None (root 100)) text_is (text_spells None (root 100) carried (omega (arith, length_is)))
