-- A document is known at the end of the input alone.
use Rattle.std.proofs.Common.{◌≡◌, ℕ, Bool, true, false, cond, List, [], ◌∷◌, length, Option, Some, None, Result, Ok, Err, refl, sym, subst}
use Rattle.std.specs.Prelude.{nat_le}
use Rattle.std.specs.FinSet as set
use Rattle.ob_spelling.specs.declared.fault.ValueFault.{ValueFault}
use Rattle.ob_spelling.specs.declared.fault.ValueFault.TheVariants.{NotName}
use Rattle.ob_scan.specs.Constructs.{Construct, Scanned, found, scan}
use Rattle.ob_scan.specs.Constructs as constructs
use Rattle.ob_scan.specs.Judgement.{WellFound, IsWellFound}
use Rattle.ob_object.specs.declared.kind.Kind.{Kind}
use Rattle.ob_object.specs.declared.head.Head.{Head}
use Rattle.ob_object.specs.Kinds.{same_kind}
use Rattle.ob_object.specs.Fits.{fits_head}
use Rattle.ob_object.specs.Object.{Object, empty_head}
use Rattle.ob_encoding.specs.Kinds.{kind_of}
use Rattle.ob_encoding.specs.Parts.{put_part}
use Rattle.ob_xml.specs.declared.doc.Doc.{Doc}
use Rattle.ob_xml.specs.declared.refused.Why.{Why}
use Rattle.ob_xml.specs.declared.refused.Why.TheVariants.{Mismatch, Twice, SameName, Value, Deep}
use Rattle.ob_xml.specs.declared.meaning.Said.{Said}
use Rattle.ob_xml.specs.declared.meaning.Said.TheVariants as said
use Rattle.ob_xml.specs.Indexes.{NameSet}
use Rattle.ob_xml.specs.Meanings.{Meaning, opening, attribute, tag_end, empty_end, closing, skipped, ending, mark, Means}
use Rattle.ob_xml.specs.Structure.{State, start, marked, between, in_tag, behind, whole, place_of, kind_in, closed, closed_as, end_tag, opened_as, step_between, siblings, is_twice, told, step}
use Rattle.ob_xml.specs.Judged.{is_open}

abbrev pub NotEnd : Meaning → Type 0
NotEnd (opening name) = Unit {0}
NotEnd (attribute name answer) = Unit {0}
NotEnd tag_end = Unit {0}
NotEnd empty_end = Unit {0}
NotEnd (closing name) = Unit {0}
NotEnd skipped = Unit {0}
NotEnd ending = ⊥
NotEnd mark = Unit {0}

abbrev LeftOpen : Result State Why → Type 0
LeftOpen (Ok t) = is_open t ≡ true
LeftOpen (Err e) = Unit {0}

choose : (b : Bool) (r s : Result State Why) → LeftOpen r → LeftOpen s → LeftOpen (cond b r s)
choose true r s p q = p
choose false r s p q = q

closed_open : (ns : Option (List ℕ)) (o : Object) (outer : List Object) → is_open (closed ns o outer) ≡ true
closed_open ns o [] = refl
closed_open ns o (parent ∷ outer) = refl

closed_as_open : (k : Option Kind) (ns : Option (List ℕ)) (o : Object) (outer : List Object) → LeftOpen (closed_as k ns o outer)
closed_as_open None ns o outer = tt
closed_as_open (Some k) ns o outer = choose (same_kind k o.head.kind) (Ok (closed ns o outer)) (Err Mismatch) (closed_open ns o outer) tt

end_open : (ns : Option (List ℕ)) (outer : List Object) (name : List ℕ) → LeftOpen (end_tag ns outer name)
end_open ns [] name = tt
end_open ns (o ∷ outer) name = closed_as_open (kind_of name) ns o outer

opened_open : (k : Option Kind) (ns : Option (List ℕ)) (outer : List Object) → LeftOpen (opened_as k ns outer)
opened_open None ns outer = tt
opened_open (Some k) ns outer = choose (nat_le 32 (length outer)) (Err Deep) (Ok (in_tag ns set.empty (empty_head k) outer)) tt refl

between_open : (ns : Option (List ℕ)) (outer : List Object) (m : Meaning) → LeftOpen (step_between ns outer m)
between_open ns outer (opening name) = opened_open (kind_of name) ns outer
between_open ns outer (attribute name answer) = tt
between_open ns outer tag_end = tt
between_open ns outer empty_end = tt
between_open ns outer (closing name) = end_open ns outer name
between_open ns outer skipped = refl
between_open ns outer ending = tt
between_open ns outer mark = tt

told_open : (ns : Option (List ℕ)) (names : NameSet) (h : Head) (outer : List Object) (n : List ℕ) (answer : Result Said ValueFault) → LeftOpen (told ns names h outer n answer)
told_open ns names h outer n (Err e) = tt
told_open ns names h outer n (Ok (said.Other text)) = refl
told_open ns names h outer n (Ok (said.Part p)) = choose (fits_head (put_part p h)) (cond (is_twice p (siblings outer)) (Err SameName) (Ok (in_tag ns (set.insert names n) (put_part p h) outer))) (Err (Value NotName))
    (choose (is_twice p (siblings outer)) (Err SameName) (Ok (in_tag ns (set.insert names n) (put_part p h) outer)) tt refl) tt

-- only the end makes a document whole
step_open : (s : State) (m : Meaning) → NotEnd m → LeftOpen (step s m)
step_open start (opening name) n = opened_open (kind_of name) None []
step_open start (attribute name answer) n = tt
step_open start tag_end n = tt
step_open start empty_end n = tt
step_open start (closing name) n = tt
step_open start skipped n = refl
step_open start ending n = absurd n
step_open start mark n = refl
step_open marked m n = between_open None [] m
step_open (between ns outer) m n = between_open ns outer m
step_open (in_tag ns names h outer) (opening name) n = tt
step_open (in_tag ns names h outer) (attribute name answer) n = choose (set.contains names name) (Err Twice) (told ns names h outer name answer) tt (told_open ns names h outer name answer)
step_open (in_tag ns names h outer) tag_end n = refl
step_open (in_tag ns names h outer) empty_end n = closed_open ns _ outer
step_open (in_tag ns names h outer) (closing name) n = tt
step_open (in_tag ns names h outer) skipped n = tt
step_open (in_tag ns names h outer) ending n = absurd n
step_open (in_tag ns names h outer) mark n = tt
step_open (behind d) (opening name) n = tt
step_open (behind d) (attribute name answer) n = tt
step_open (behind d) tag_end n = tt
step_open (behind d) empty_end n = tt
step_open (behind d) (closing name) n = tt
step_open (behind d) skipped n = refl
step_open (behind d) ending n = absurd n
step_open (behind d) mark n = tt
step_open (whole d) m n = tt

pub not_whole : (s : State) (m : Meaning) (d : Doc) → NotEnd m → step s m ≡ Ok (whole d) → ⊥
not_whole s m d n e = let no : false ≡ true = subst LeftOpen e (step_open s m n) in absurd cc

pub only_at_end : (well : IsWellFound) (ended : Bool) (s : State) (bytes rest : List ℕ) (c : Construct) (m : Meaning) (d : Doc)
    → scan (place_of s) ended bytes ≡ found c rest → Means (kind_in s) c m → step s m ≡ Ok (whole d) → ended ≡ true
only_at_end well ended s bytes rest (constructs.opening name) m d f h e = absurd (not_whole s m d (subst NotEnd (sym h) tt) e)
only_at_end well ended s bytes rest (constructs.attribute name raw) m d f h e = absurd (not_whole s m d (subst NotEnd (sym h.2.2) tt) e)
only_at_end well ended s bytes rest constructs.tag_end m d f h e = absurd (not_whole s m d (subst NotEnd (sym h) tt) e)
only_at_end well ended s bytes rest constructs.empty_end m d f h e = absurd (not_whole s m d (subst NotEnd (sym h) tt) e)
only_at_end well ended s bytes rest (constructs.closing name) m d f h e = absurd (not_whole s m d (subst NotEnd (sym h) tt) e)
only_at_end well ended s bytes rest constructs.skipped m d f h e = absurd (not_whole s m d (subst NotEnd (sym h) tt) e)
only_at_end well ended s bytes rest constructs.ending m d f h e = subst (WellFound ended) f (well (place_of s) ended bytes)
only_at_end well ended s bytes rest constructs.mark m d f h e = absurd (not_whole s m d (subst NotEnd (sym h) tt) e)
