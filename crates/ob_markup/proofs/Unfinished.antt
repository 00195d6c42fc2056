-- What asks for more can go on to a piece.
use Rattle.std.proofs.Common.{◌≡◌, ℕ, ◌+◌, ◌-◌, ◌<◌, Bool, true, false, cond, eqb, List, [], ◌∷◌, ◌++◌, length, Option, Some, None, Result, Ok, Err, refl, sym, ap, ◌∙◌, subst, append_assoc, length-append, arith}
use Rattle.std.specs.Prelude.{codes}
use Rattle.std.proofs.lemmas.Bool.{eqb-true}
use Rattle.std.proofs.lemmas.Bool.Decides.{nat_tests}
use Rattle.ob_scan.specs.declared.stop.Stop.{Stop}
use Rattle.ob_scan.specs.declared.stop.Stop.TheVariants.{Want, Malformed}
use Rattle.ob_scan.specs.declared.piece.Why.TheVariants as whys
use Rattle.ob_scan.specs.declared.piece.Place.{Place}
use Rattle.ob_scan.specs.declared.piece.Place.TheVariants.{Start, Marked, Between, InTag, After}
use Rattle.ob_scan.specs.Reading.{literal, behind_spaces, some_behind}
use Rattle.ob_scan.specs.Constructs.{Construct, Scanned, found, refused, comment_at, instruction_at, end_tag_at, tag_name_at, markup_at, attribute_at, bad_reference, declaration_at, declares, mark_at, wanting, judged, checked, attribute_found, empty_end_at, tag_part, in_tag, blank, outside, behind_element, declared, behind_mark, marked, scan}
use Rattle.ob_scan.specs.Constructs as scanned
use Rattle.ob_scan.proofs.Longer.{Stays, literal_stays, declares_stays, rest_on}
use Rattle.ob_markup.specs.Characters.{IsBlank}
use Rattle.ob_markup.specs.Markup.{print_attribute}
use Rattle.ob_markup.specs.Pieces.{attribute, tag_end, empty_end, MayHaveForm}
use Rattle.ob_markup.proofs.Literals.{Spaced, spaced, spaces_want, literal_want, bind_want, Wanting, at_first, behind, behind_again}
use Rattle.ob_markup.proofs.Forms.{attribute_ok, attribute_print}
use Rattle.ob_markup.proofs.Found.{found_ok}
use Rattle.ob_markup.proofs.Leads.{Led, Any, literal_leads, comment_leads, instruction_leads, end_tag_leads, tag_name_leads, attribute_leads}
use Rattle.ob_markup.proofs.Begun.{plainest_declaration, declaration_leads, declares_leads}

-- bytes that go on are found
record Goes (place : Place) (bytes : List ℕ) : Type 0 where
  tail : List ℕ
  construct : Construct
  rest : List ℕ
  is : scan place false (bytes ++ tail) ≡ found construct rest

may_of : (place : Place) (bytes : List ℕ) → Goes place bytes → MayHaveForm place bytes
may_of place bytes g = let r = found_ok place false (bytes ++ g.tail) g.construct g.rest g.is in (g.tail, r.piece, g.rest, r.form)

record OutsideGoes (bytes : List ℕ) : Type 0 where
  tail : List ℕ
  construct : Construct
  rest : List ℕ
  is : outside false (bytes ++ tail) ≡ found construct rest

-- ---- outside tags

judged_more : (bytes : List ℕ) (place : ℕ) (r : Result (Construct × List ℕ) Stop) → judged false bytes place r ≡ scanned.more → r ≡ Err Want
judged_more bytes place (Ok x) e = absurd cc
judged_more bytes place (Err Want) e = refl
judged_more bytes place (Err Malformed) e = absurd cc

abbrev MarkupLed : List ℕ → Type 0
MarkupLed bytes = Led rest_on (Any {Y = Construct × List ℕ}) markup_at bytes

one_letter : markup_at (97 ∷ 62 ∷ []) ≡ Ok (scanned.opening (97 ∷ []), 62 ∷ [])
unfolding tag_name_at
one_letter = refl

markup_more : (bytes : List ℕ) → markup_at bytes ≡ Err Want → MarkupLed bytes
markup_more [] e = record { tail = 97 ∷ 62 ∷ []; value = (scanned.opening (97 ∷ []), 62 ∷ []); is = one_letter; holds = tt }
markup_more (b ∷ bytes) e = on (eqb b 33) (eqb b 63) (eqb b 47) refl refl refl e
  where
    on : (s t u : Bool) → eqb b 33 ≡ s → eqb b 63 ≡ t → eqb b 47 ≡ u → cond s (comment_at bytes) (cond t (instruction_at bytes) (cond u (end_tag_at bytes) (tag_name_at (b ∷ bytes)))) ≡ Err Want → MarkupLed (b ∷ bytes)
    on true t u p q r h = let l = comment_leads.leads bytes h in record { tail = l.tail; value = l.value; is = rw p l.is; holds = tt }
    on false true u p q r h = let l = instruction_leads.leads bytes h in record { tail = l.tail; value = l.value; is = rw (p, q) l.is; holds = tt }
    on false false true p q r h = let l = end_tag_leads.leads bytes h in record { tail = l.tail; value = l.value; is = rw (p, q, r) l.is; holds = tt }
    on false false false p q r h = let l = tag_name_leads.leads (b ∷ bytes) h in record { tail = l.tail; value = l.value; is = rw (p, q, r) l.is; holds = tt }

blank_more : (xs : List ℕ) → blank false xs ≡ scanned.more → xs ≡ []
blank_more [] e = refl
blank_more (x ∷ xs) e = absurd (never (eqb x 60) e)
  where
    never : (v : Bool) → cond v (found scanned.skipped (x ∷ xs)) (refused 0 whys.Text) ≡ scanned.more → ⊥
    never true e = cc
    never false e = cc

nothing_behind : (bytes : List ℕ) → behind_spaces bytes ≡ [] → IsBlank bytes
nothing_behind bytes e = spaces_want bytes (ap some_behind e)

outside_more : (bytes : List ℕ) → outside false bytes ≡ scanned.more → OutsideGoes bytes
outside_more [] e = record { tail = 32 ∷ 60 ∷ []; construct = scanned.skipped; rest = 60 ∷ []; is = refl }
outside_more (b ∷ bytes) e = on (eqb b 60) refl e
  where
    white : IsBlank (b ∷ bytes) → eqb b 60 ≡ false → outside false ((b ∷ bytes) ++ (60 ∷ [])) ≡ found scanned.skipped (60 ∷ [])
    white w n = rw n (ap (blank false) (behind_again (b ∷ bytes) (60 ∷ []) w refl))

    on : (v : Bool) → eqb b 60 ≡ v → cond v (judged false (b ∷ bytes) 0 (markup_at bytes)) (blank false (behind_spaces (b ∷ bytes))) ≡ scanned.more → OutsideGoes (b ∷ bytes)
    on true t h =
        let l = markup_more bytes (judged_more (b ∷ bytes) 0 (markup_at bytes) h) in
        record { tail = l.tail; construct = l.value.0; rest = l.value.1; is = rw t (ap (judged false (b ∷ (bytes ++ l.tail)) 0) l.is) }
    on false t h =
        let w = nothing_behind (b ∷ bytes) (blank_more (behind_spaces (b ∷ bytes)) h) in
        record { tail = 60 ∷ []; construct = scanned.skipped; rest = 60 ∷ []; is = white w t }

-- ---- at the start

declares_no : (bytes tail : List ℕ) → declares bytes ≡ Err Malformed → declares (bytes ++ tail) ≡ Err Malformed
declares_no bytes tail e = subst (λ (r : Result (List ℕ) Stop). Stays (rest_on tail) r (declares (bytes ++ tail))) e (declares_stays tail bytes)

mark_no : (bytes tail : List ℕ) → mark_at bytes ≡ Err Malformed → mark_at (bytes ++ tail) ≡ Err Malformed
mark_no bytes tail e = subst (λ (r : Result (List ℕ) Stop). Stays (rest_on tail) r (mark_at (bytes ++ tail))) e (literal_stays tail (0xEF ∷ 0xBB ∷ 0xBF ∷ []) bytes)

record MarkedGoes (bytes : List ℕ) : Type 0 where
  tail : List ℕ
  construct : Construct
  rest : List ℕ
  is : behind_mark false (bytes ++ tail) ≡ found construct rest

declared_more : (bytes : List ℕ) (r : Result (List ℕ) Stop) → declares bytes ≡ r → declared false bytes r ≡ scanned.more → MarkedGoes bytes
declared_more bytes (Ok left) e h =
    let l = declaration_leads.leads left (judged_more bytes 0 (declaration_at left) h) in
    let still : declares (bytes ++ l.tail) ≡ Ok (left ++ l.tail) = declares_leads.stays bytes left l.tail e in
    record { tail = l.tail; construct = l.value.0; rest = l.value.1; is = ap (declared false (bytes ++ l.tail)) still ∙ ap (judged false (bytes ++ l.tail) 0) l.is }
declared_more bytes (Err Want) e h =
    let l = declares_leads.leads bytes e in
    record { tail = l.tail; construct = scanned.skipped; rest = []; is = ap (declared false (bytes ++ l.tail)) l.is ∙ ap (λ (xs : List ℕ). judged false (bytes ++ l.tail) 0 (declaration_at xs)) l.holds ∙ ap (judged false (bytes ++ l.tail) 0) plainest_declaration }
declared_more bytes (Err Malformed) e h =
    let o = outside_more bytes h in
    record { tail = o.tail; construct = o.construct; rest = o.rest; is = ap (declared false (bytes ++ o.tail)) (declares_no bytes o.tail e) ∙ o.is }

marked_more : (bytes : List ℕ) (r : Result (List ℕ) Stop) → mark_at bytes ≡ r → marked false bytes r ≡ scanned.more → Goes Start bytes
marked_more bytes (Ok left) e h = absurd cc
marked_more bytes (Err Want) e h =
    let l = (literal_leads (0xEF ∷ 0xBB ∷ 0xBF ∷ []) []).leads bytes e in
    record { tail = l.tail; construct = scanned.mark; rest = l.value; is = ap (marked false (bytes ++ l.tail)) l.is }
marked_more bytes (Err Malformed) e h =
    let m = declared_more bytes (declares bytes) refl h in
    record { tail = m.tail; construct = m.construct; rest = m.rest; is = ap (marked false (bytes ++ m.tail)) (mark_no bytes m.tail e) ∙ m.is }

element_more : (bytes : List ℕ) → behind_element false bytes ≡ scanned.more → Goes After bytes
element_more [] e = record { tail = 32 ∷ 60 ∷ []; construct = scanned.skipped; rest = 60 ∷ []; is = refl }
element_more (b ∷ bytes) e = let o = outside_more (b ∷ bytes) e in record { tail = o.tail; construct = o.construct; rest = o.rest; is = o.is }

-- ---- in a tag

attribute_want : (bytes here : List ℕ) (r : Result ((List ℕ × List ℕ) × List ℕ) Stop) → attribute_found false bytes here r ≡ scanned.more → r ≡ Err Want
attribute_want bytes here (Err Want) e = refl
attribute_want bytes here (Err Malformed) e = absurd cc
attribute_want bytes here (Ok x) e = absurd (never (bad_reference x.0.1) e)
  where
    never : (o : Option ℕ) → checked bytes here x o ≡ scanned.more → ⊥
    never None e = cc
    never (Some k) e = cc

some_length : (bytes here : List ℕ) (s : Spaced bytes here) → eqb (length bytes) (length here) ≡ false → 0 < length s.white
some_length bytes here s e =
    let n : length bytes ≡ length s.white + length here = ap length s.parts ∙ length-append s.white here in
    grind (arith, nat_tests)

abbrev empty_made : List ℕ → Result (Construct × List ℕ) Stop
empty_made rest = Ok (scanned.empty_end, rest)

on_tail : (bytes white here tail last rest : List ℕ) → bytes ≡ white ++ here → here ++ tail ≡ last ++ rest → bytes ++ tail ≡ (white ++ last) ++ rest
on_tail bytes white here tail last rest e h =
    ap (λ (xs : List ℕ). xs ++ tail) e ∙ append_assoc white here tail ∙ ap (λ (xs : List ℕ). white ++ xs) h ∙ sym (append_assoc white last rest)

part_more : (bytes here : List ℕ) → Spaced bytes here → tag_part false bytes here ≡ scanned.more → MayHaveForm InTag bytes
part_more bytes [] s e =
    (codes ">", tag_end s.white, [], record { stands = tt; form = s.is_white; printed = on_tail bytes s.white [] (codes ">") (codes ">") [] s.parts refl; follows = tt })
part_more bytes (b ∷ here) s e = on (eqb b 62) (eqb b 47) (eqb (length bytes) (length (b ∷ here))) refl refl refl e
  where
    of_slash : b ≡ 47 → Wanting (literal (codes ">") here) empty_made → MayHaveForm InTag bytes
    of_slash is (at_first h) =
        let w = literal_want (codes ">") here h in
        let last : (b ∷ here) ++ w.0 ≡ codes "/>" ++ [] = ap (λ (x : ℕ). x ∷ (here ++ w.0)) is ∙ ap (λ (xs : List ℕ). 47 ∷ xs) w.1 in
        (w.0, empty_end s.white, [], record { stands = tt; form = s.is_white; printed = on_tail bytes s.white (b ∷ here) w.0 (codes "/>") [] s.parts last; follows = tt })
    of_slash is (behind x h k) = absurd cc

    on : (p q r : Bool) → eqb b 62 ≡ p → eqb b 47 ≡ q → eqb (length bytes) (length (b ∷ here)) ≡ r
        → cond p (found scanned.tag_end here) (cond q (judged false bytes (length bytes - length (b ∷ here)) (empty_end_at here)) (cond r (refused 0 whys.Markup) (attribute_found false bytes (b ∷ here) (attribute_at (b ∷ here))))) ≡ scanned.more → MayHaveForm InTag bytes
    on true q r t u v h = absurd cc
    on false true r t u v h = of_slash (eqb-true b 47 u) (bind_want (literal (codes ">") here) empty_made (judged_more bytes (length bytes - length (b ∷ here)) (empty_end_at here) h))
    on false false true t u v h = absurd cc
    on false false false t u v h =
        let l = attribute_leads.leads (b ∷ here) (attribute_want bytes (b ∷ here) (attribute_at (b ∷ here)) h) in
        let f = attribute_ok ((b ∷ here) ++ l.tail) l.value l.is in
        let last : (b ∷ here) ++ l.tail ≡ print_attribute f.attribute ++ l.value.1 = f.parts ∙ sym (attribute_print f.attribute l.value.1) in (
          l.tail,
          attribute s.white f.attribute,
          l.value.1,
          record {
            stands = tt;
            form = ((some_length bytes (b ∷ here) s v, s.is_white), f.form);
            printed = on_tail bytes s.white (b ∷ here) l.tail (print_attribute f.attribute) l.value.1 s.parts last;
            follows = tt;
          },
        )

pub more_may : (place : Place) (bytes : List ℕ) → scan place false bytes ≡ scanned.more → MayHaveForm place bytes
more_may Start bytes e = may_of Start bytes (marked_more bytes (mark_at bytes) refl e)
more_may Marked bytes e = let m = declared_more bytes (declares bytes) refl e in may_of Marked bytes (record { tail = m.tail; construct = m.construct; rest = m.rest; is = m.is })
more_may Between bytes e = let o = outside_more bytes e in may_of Between bytes (record { tail = o.tail; construct = o.construct; rest = o.rest; is = o.is })
more_may InTag bytes e = part_more bytes (behind_spaces bytes) (spaced bytes) e
more_may After bytes e = may_of After bytes (element_more bytes e)
