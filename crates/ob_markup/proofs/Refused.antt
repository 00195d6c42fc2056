-- What the scanner refuses at a place.
use Rattle.std.proofs.Common.{◌≡◌, ◌≢◌, ℕ, ◌+◌, ◌-◌, ◌<◌, ◌≤◌, inl, inr, Bool, true, false, cond, eqb, List, [], ◌∷◌, ◌++◌, length, Option, Some, None, Result, Ok, Err, refl, sym, ap, ◌∙◌, subst, append_assoc, length-append, arith}
use Rattle.std.specs.Prelude.{codes}
use Rattle.std.proofs.lemmas.Bool.{eqb-true, eq-eqb}
use Rattle.std.proofs.lemmas.Bool.Decides.{nat_tests}
use Rattle.ob_scan.specs.declared.stop.Stop.{Stop}
use Rattle.ob_scan.specs.declared.stop.Stop.TheVariants.{Want, Malformed}
use Rattle.ob_scan.specs.declared.piece.Why.{Why}
use Rattle.ob_scan.specs.declared.piece.Why.TheVariants as whys
use Rattle.ob_scan.specs.declared.piece.Place.{Place}
use Rattle.ob_scan.specs.declared.piece.Place.TheVariants.{Start, Marked, Between, InTag, After}
use Rattle.ob_scan.specs.Reading.{is_space, literal, behind_spaces}
use Rattle.ob_scan.specs.Constructs.{Construct, Scanned, found, refused, markup_at, attribute_at, bad_reference, declaration_at, one_space, declares, mark_at, wanting, judged, checked, attribute_found, empty_end_at, tag_part, in_tag, blank, outside, behind_element, declared, behind_mark, marked, scan}
use Rattle.ob_scan.specs.Constructs as scanned
use Rattle.ob_scan.specs.Judgement.{StaysWith, IsJudgedOnce}
use Rattle.ob_markup.specs.Characters.{IsBlank, is_name_byte, IsName, print_equals}
use Rattle.ob_markup.specs.References.{IsBadReference}
use Rattle.ob_markup.specs.Markup.{Attribute, print_attribute}
use Rattle.ob_markup.specs.Pieces.{Piece, byte_order_mark, declaration, white_space, comment, instruction, tag_name, attribute, tag_end, empty_end, end_tag, input_end, RefersWell, StandsAt, HasForm, NeverHasForm}
use Rattle.ob_markup.specs.Scanning.{told, RefersBadly, BeginsDark, BlamesInTag, BlamesOutside, IsRefused}
use Rattle.ob_markup.proofs.Literals.{bind_ok, literal_ok, Spaced, spaced, MaybeDark, behind_is_dark}
use Rattle.ob_markup.proofs.Forms.{attribute_bytes, attribute_ok, attribute_print}
use Rattle.ob_markup.proofs.References.{no_bad_ok, bad_ok, bad_again}
use Rattle.ob_markup.proofs.Found.{IsOutside}
use Rattle.ob_markup.proofs.Again.{found_again, attribute_scan}

pub record SameRefused (j k : ℕ) (v w : Why) : Type 0 where
  pub place : j ≡ k
  pub why : v ≡ w

pub same_refused : (j k : ℕ) (v w : Why) → refused j v ≡ refused k w → SameRefused j k v w
same_refused j k v w e = record { place = cc; why = cc }

-- ---- outside tags

judged_refused : (bytes : List ℕ) (place : ℕ) (r : Result (Construct × List ℕ) Stop) (k : ℕ) (why : Why) → judged false bytes place r ≡ refused k why → SameRefused place k whys.Markup why
judged_refused bytes place (Ok x) k why e = absurd cc
judged_refused bytes place (Err Want) k why e = absurd cc
judged_refused bytes place (Err Malformed) k why e = same_refused place k whys.Markup why e

blank_refused : (xs : List ℕ) (k : ℕ) (why : Why) → blank false xs ≡ refused k why → SameRefused 0 k whys.Text why
blank_refused [] k why e = absurd cc
blank_refused (x ∷ xs) k why e = on (eqb x 60) e
  where
    on : (v : Bool) → cond v (found scanned.skipped (x ∷ xs)) (refused 0 whys.Text) ≡ refused k why → SameRefused 0 k whys.Text why
    on true h = absurd cc
    on false h = same_refused 0 k whys.Text why h

not_60 : (b : ℕ) → eqb b 60 ≡ false → b ≢ 60
not_60 b e h = let f : true ≡ false = sym (eq-eqb b 60 h) ∙ e in cc

outside_refused : (bytes : List ℕ) (k : ℕ) (why : Why) → outside false bytes ≡ refused k why → BlamesOutside bytes k why
outside_refused [] k why e = absurd cc
outside_refused (b ∷ bytes) k why e = on (eqb b 60) refl e
  where
    on : (v : Bool) → eqb b 60 ≡ v → cond v (judged false (b ∷ bytes) 0 (markup_at bytes)) (blank false (behind_spaces (b ∷ bytes))) ≡ refused k why → BlamesOutside (b ∷ bytes) k why
    on true t h = let s = judged_refused (b ∷ bytes) 0 (markup_at bytes) k why h in (sym s.place, inl (eqb-true b 60 t, sym s.why))
    on false t h = let s = blank_refused (behind_spaces (b ∷ bytes)) k why h in (sym s.place, inr (not_60 b t, sym s.why))

-- what declares begins with <
declares_first : (bytes behind : List ℕ) → declares bytes ≡ Ok behind → (rest : List ℕ) × (bytes ≡ 60 ∷ rest)
unfolding declares
declares_first bytes behind e =
    let b = bind_ok (literal (codes "<?xml") bytes) one_space behind e in
    (63 ∷ 120 ∷ 109 ∷ 108 ∷ b.mid, literal_ok (codes "<?xml") bytes b.mid b.first)

markup_blame : (bytes rest : List ℕ) (k : ℕ) (why : Why) → bytes ≡ 60 ∷ rest → SameRefused 0 k whys.Markup why → BlamesOutside bytes k why
markup_blame bytes rest k why e s = subst (λ (xs : List ℕ). BlamesOutside xs k why) (sym e) (sym s.place, inl (refl, sym s.why))

declared_refused : (bytes : List ℕ) (r : Result (List ℕ) Stop) (k : ℕ) (why : Why) → declares bytes ≡ r → declared false bytes r ≡ refused k why → BlamesOutside bytes k why
declared_refused bytes (Ok behind) k why e h =
    let first = declares_first bytes behind e in
    markup_blame bytes first.0 k why first.1 (judged_refused bytes 0 (declaration_at behind) k why h)
declared_refused bytes (Err Want) k why e h = absurd cc
declared_refused bytes (Err Malformed) k why e h = outside_refused bytes k why h

marked_refused : (bytes : List ℕ) (r : Result (List ℕ) Stop) (k : ℕ) (why : Why) → marked false bytes r ≡ refused k why → BlamesOutside bytes k why
marked_refused bytes (Ok behind) k why e = absurd cc
marked_refused bytes (Err Want) k why e = absurd cc
marked_refused bytes (Err Malformed) k why e = declared_refused bytes (declares bytes) k why refl e

element_refused : (bytes : List ℕ) (k : ℕ) (why : Why) → behind_element false bytes ≡ refused k why → BlamesOutside bytes k why
element_refused [] k why e = absurd cc
element_refused (b ∷ bytes) k why e = outside_refused (b ∷ bytes) k why e

-- ---- in a tag

-- a malformed part, or an attribute whose references aren't all references
data Refusal (bytes : List ℕ) (k : ℕ) (why : Why) : Type 0 where
  malformed : BlamesInTag bytes k why → Refusal bytes k why
  badly : why ≡ whys.Markup → RefersBadly InTag bytes k → Refusal bytes k why

maybe_begins : (xs : List ℕ) → MaybeDark xs → BeginsDark xs
maybe_begins [] d = tt
maybe_begins (b ∷ xs) d = d

at_dark : (bytes here : List ℕ) (k : ℕ) (why : Why) → Spaced bytes here → MaybeDark here → why ≡ whys.Markup → k ≡ length bytes - length here → BlamesInTag bytes k why
at_dark bytes here k why s d w e =
    let n : length bytes ≡ length s.white + length here = ap length s.parts ∙ length-append s.white here in
    record { why_is = w; white = s.white; rest = here; parts = s.parts; is_white = s.is_white; is_dark = maybe_begins here d; place_is = omega arith }

attribute_length : (a : Attribute) (rest : List ℕ) → length (attribute_bytes a rest) ≡ length a.name + (length (print_equals a.equals) + (1 + (length a.value + (1 + length rest))))
attribute_length a rest =
    omega (
      arith,
      length-append a.name (a.equals.before ++ (61 ∷ (a.equals.after ++ (a.quote ∷ (a.value ++ (a.quote ∷ rest)))))),
      length-append a.equals.before (61 ∷ (a.equals.after ++ (a.quote ∷ (a.value ++ (a.quote ∷ rest))))),
      length-append a.equals.after (a.quote ∷ (a.value ++ (a.quote ∷ rest))),
      length-append a.value (a.quote ∷ rest),
      length-append a.equals.before (61 ∷ a.equals.after),
    )

-- where the value of the attribute begins
value_place : (bytes white : List ℕ) (a : Attribute) (rest : List ℕ) → bytes ≡ white ++ attribute_bytes a rest
    → length bytes - (length rest + length a.value + 1) ≡ length white + (length a.name + (length (print_equals a.equals) + 1))
value_place bytes white a rest e =
    let n : length bytes ≡ length white + length (attribute_bytes a rest) = ap length e ∙ length-append white (attribute_bytes a rest) in
    let m = attribute_length a rest in
    omega arith

attribute_refused : (bytes here : List ℕ) (k : ℕ) (why : Why) (r : Result ((List ℕ × List ℕ) × List ℕ) Stop) → attribute_at here ≡ r → (s : Spaced bytes here) → 0 < length s.white → MaybeDark here
    → attribute_found false bytes here r ≡ refused k why → Refusal bytes k why
attribute_refused bytes here k why (Err Want) e s w d h = absurd cc
attribute_refused bytes here k why (Err Malformed) e s w d h =
    let same = same_refused (length bytes - length here) k whys.Markup why h in
    malformed (at_dark bytes here k why s d (sym same.why) (sym same.place))
attribute_refused bytes here k why (Ok x) e s w d h = on (bad_reference x.0.1) refl h
  where
    on : (o : Option ℕ) → bad_reference x.0.1 ≡ o → checked bytes here x o ≡ refused k why → Refusal bytes k why
    on None b h = absurd cc
    on (Some j) b h =
        let f = attribute_ok here x e in
        let same = same_refused ((length bytes - (length x.1 + length x.0.1 + 1)) + j) k whys.Markup why h in
        let parts : bytes ≡ s.white ++ attribute_bytes f.attribute x.1 = s.parts ∙ ap (λ (xs : List ℕ). s.white ++ xs) f.parts in
        let values : length x.0.1 ≡ length f.attribute.value = ap length f.value in
        let at_value = value_place bytes s.white f.attribute x.1 parts in
        let place = same.place in
        badly (sym same.why) (record {
          space = s.white;
          attr = f.attribute;
          rest = x.1;
          form = record {
            stands = tt;
            form = ((w, s.is_white), f.form);
            printed = parts ∙ ap (λ (xs : List ℕ). s.white ++ xs) (sym (attribute_print f.attribute x.1)) ∙ sym (append_assoc s.white (print_attribute f.attribute) x.1);
            follows = tt;
          };
          bad = j;
          is_bad = subst (λ (v : List ℕ). IsBadReference v j) f.value (bad_ok x.0.1 j b);
          place_is = omega arith;
        })

some_length : (bytes here : List ℕ) (s : Spaced bytes here) → eqb (length bytes) (length here) ≡ false → 0 < length s.white
some_length bytes here s e =
    let n : length bytes ≡ length s.white + length here = ap length s.parts ∙ length-append s.white here in
    grind (arith, nat_tests)

part_refused : (bytes here : List ℕ) (k : ℕ) (why : Why) → Spaced bytes here → MaybeDark here → tag_part false bytes here ≡ refused k why → Refusal bytes k why
part_refused bytes [] k why s d e = absurd cc
part_refused bytes (b ∷ here) k why s d e = on (eqb b 62) (eqb b 47) (eqb (length bytes) (length (b ∷ here))) refl e
  where
    on : (p q r : Bool) → eqb (length bytes) (length (b ∷ here)) ≡ r
        → cond p (found scanned.tag_end here) (cond q (judged false bytes (length bytes - length (b ∷ here)) (empty_end_at here)) (cond r (refused 0 whys.Markup) (attribute_found false bytes (b ∷ here) (attribute_at (b ∷ here))))) ≡ refused k why → Refusal bytes k why
    on true q r v h = absurd cc
    on false true r v h =
        let same = judged_refused bytes (length bytes - length (b ∷ here)) (empty_end_at here) k why h in
        malformed (at_dark bytes (b ∷ here) k why s d (sym same.why) (sym same.place))
    on false false true v h =
        let same = same_refused 0 k whys.Markup why h in
        let equal : length bytes ≡ length (b ∷ here) = eqb-true (length bytes) (length (b ∷ here)) v in
        let place = same.place in
        malformed (at_dark bytes (b ∷ here) k why s d (sym same.why) (omega arith))
    on false false false v h = attribute_refused bytes (b ∷ here) k why (attribute_at (b ∷ here)) refl s (some_length bytes (b ∷ here) s v) d h

-- ---- what is refused stays so

-- a piece refers well, or is an attribute with a bad reference
data Refers : Piece → Type 0 where
  well : (p : Piece) → RefersWell p → Refers p
  ill : (space : List ℕ) (a : Attribute) (j : ℕ) → IsBadReference a.value j → Refers (attribute space a)

value_refers : (space : List ℕ) (a : Attribute) (o : Option ℕ) → bad_reference a.value ≡ o → Refers (attribute space a)
value_refers space a None e = well (attribute space a) (no_bad_ok a.value e)
value_refers space a (Some j) e = ill space a j (bad_ok a.value j e)

refers : (p : Piece) → Refers p
refers byte_order_mark = well byte_order_mark tt
refers (declaration d) = well (declaration d) tt
refers (white_space s) = well (white_space s) tt
refers (comment t) = well (comment t) tt
refers (instruction i) = well (instruction i) tt
refers (tag_name n) = well (tag_name n) tt
refers (attribute space a) = value_refers space a (bad_reference a.value) refl
refers (tag_end s) = well (tag_end s) tt
refers (empty_end s) = well (empty_end s) tt
refers (end_tag t) = well (end_tag t) tt
refers input_end = well input_end tt

-- an attribute with a bad reference is refused there
pub ill_scan : (place : Place) (ended : Bool) (bytes : List ℕ) (space : List ℕ) (a : Attribute) (rest : List ℕ) (j : ℕ) → HasForm place ended bytes (attribute space a) rest → IsBadReference a.value j
    → scan place ended bytes ≡ refused (length space + (length a.name + (length (print_equals a.equals) + (1 + j)))) whys.Markup
ill_scan InTag ended bytes space a rest j f b =
    let parts : bytes ≡ space ++ attribute_bytes a rest = f.printed ∙ append_assoc space (print_attribute a) rest ∙ ap (λ (xs : List ℕ). space ++ xs) (attribute_print a rest) in
    let at_value = value_place bytes space a rest parts in
    let place : (length bytes - (length rest + length a.value + 1)) + j ≡ length space + (length a.name + (length (print_equals a.equals) + (1 + j))) = omega arith in
    attribute_scan ended bytes space a rest f.form.0 f.form.1 f.printed
    ∙ ap (checked bytes (attribute_bytes a rest) ((a.name, a.value), rest)) (bad_again a.value j b)
    ∙ ap (λ (n : ℕ). refused n whys.Markup) place
ill_scan Start ended bytes space a rest j f b = absurd f.stands
ill_scan Marked ended bytes space a rest j f b = absurd f.stands
ill_scan Between ended bytes space a rest j f b = absurd f.stands
ill_scan After ended bytes space a rest j f b = absurd f.stands

-- what is found or refused where a piece stands
pub data Stood (place : Place) (ended : Bool) (bytes : List ℕ) (p : Piece) (rest : List ℕ) : Type 0 where
  is_found : scan place ended bytes ≡ found (told p) rest → Stood place ended bytes p rest
  is_refused : (space : List ℕ) (a : Attribute) (j : ℕ) → p ≡ attribute space a → scan place ended bytes ≡ refused (length space + (length a.name + (length (print_equals a.equals) + (1 + j)))) whys.Markup
      → Stood place ended bytes p rest

pub stood : (place : Place) (ended : Bool) (bytes : List ℕ) (p : Piece) (rest : List ℕ) → HasForm place ended bytes p rest → Stood place ended bytes p rest
stood place ended bytes p rest f = on p (refers p) f
  where
    on : (p : Piece) → Refers p → HasForm place ended bytes p rest → Stood place ended bytes p rest
    on p (well q w) f = is_found (found_again place ended bytes p rest f.stands f.form f.printed f.follows w)
    on p (ill space a j b) f = is_refused space a j refl (ill_scan place ended bytes space a rest j f b)

refused_stays : IsJudgedOnce → (place : Place) (ended : Bool) (bytes tail : List ℕ) (k : ℕ) (why : Why) → scan place false bytes ≡ refused k why → scan place ended (bytes ++ tail) ≡ refused k why
refused_stays once place ended bytes tail k why e = subst (λ (s : Scanned). StaysWith tail s (scan place ended (bytes ++ tail))) e (once place ended bytes tail)

-- outside tags no attribute stands
no_attribute : (place : Place) (space : List ℕ) (a : Attribute) (p : Piece) → IsOutside place → p ≡ attribute space a → StandsAt place p → ⊥
no_attribute Start space a p o e s = subst (StandsAt Start) e s
no_attribute Marked space a p o e s = subst (StandsAt Marked) e s
no_attribute Between space a p o e s = subst (StandsAt Between) e s
no_attribute InTag space a p o e s = o
no_attribute After space a p o e s = subst (StandsAt After) e s

never_outside : IsJudgedOnce → (place : Place) (bytes : List ℕ) (k : ℕ) (why : Why) → IsOutside place → scan place false bytes ≡ refused k why → NeverHasForm place bytes
never_outside once place bytes k why o e tail p rest f = on (stood place false (bytes ++ tail) p rest f)
  where
    on : Stood place false (bytes ++ tail) p rest → ⊥
    on (is_found h) = let t : found (told p) rest ≡ refused k why = sym h ∙ refused_stays once place false bytes tail k why e in cc
    on (is_refused space a j g h) = no_attribute place space a p o g f.stands

-- white space before a byte that is none
white_short : (white space : List ℕ) (b : ℕ) (xs ys : List ℕ) → IsBlank white → is_space b ≡ false → white ++ xs ≡ space ++ (b ∷ ys) → length white ≤ length space
white_short [] space b xs ys w d e = omega arith
white_short (x ∷ white) [] b xs ys w d e =
    let same : x ≡ b = cc in
    let f : true ≡ false = sym w.0 ∙ ap is_space same ∙ d in
    absurd cc
white_short (x ∷ white) (y ∷ space) b xs ys w d e =
    let later : white ++ xs ≡ space ++ (b ∷ ys) = cc in
    omega (arith, white_short white space b xs ys w.1 d later)

name_dark : (b : ℕ) → is_name_byte b ≡ true → is_space b ≡ false
name_dark b e = grind (arith, nat_tests)

attribute_white : (white : List ℕ) (xs : List ℕ) (space name more : List ℕ) → IsBlank white → IsName name → white ++ xs ≡ space ++ (name ++ more) → length white ≤ length space
attribute_white white xs space [] more w n e = absurd (omega (arith, n.some))
attribute_white white xs space (b ∷ name) more w n e = white_short white space b xs (name ++ more) w (name_dark b n.bytes.0) e

never_in_tag : IsJudgedOnce → (bytes : List ℕ) (k : ℕ) (why : Why) → BlamesInTag bytes k why → scan InTag false bytes ≡ refused k why → NeverHasForm InTag bytes
never_in_tag once bytes k why b e tail p rest f = on (stood InTag false (bytes ++ tail) p rest f) f
  where
    stays : scan InTag false (bytes ++ tail) ≡ refused k why
    stays = refused_stays once InTag false bytes tail k why e

    place : (space : List ℕ) (a : Attribute) → HasForm InTag false (bytes ++ tail) (attribute space a) rest → length b.white ≤ length space
    place space a g =
        let parts : bytes ++ tail ≡ space ++ attribute_bytes a rest = g.printed ∙ append_assoc space (print_attribute a) rest ∙ ap (λ (xs : List ℕ). space ++ xs) (attribute_print a rest) in
        let whites : b.white ++ (b.rest ++ tail) ≡ space ++ attribute_bytes a rest = sym (append_assoc b.white b.rest tail) ∙ ap (λ (xs : List ℕ). xs ++ tail) (sym b.parts) ∙ parts in
        attribute_white b.white (b.rest ++ tail) space a.name (a.equals.before ++ (61 ∷ (a.equals.after ++ (a.quote ∷ (a.value ++ (a.quote ∷ rest)))))) b.is_white g.form.1.name whites

    on : Stood InTag false (bytes ++ tail) p rest → HasForm InTag false (bytes ++ tail) p rest → ⊥
    on (is_found h) f = let t : found (told p) rest ≡ refused k why = sym h ∙ stays in cc
    on (is_refused space a j g h) f =
        let same = same_refused (length space + (length a.name + (length (print_equals a.equals) + (1 + j)))) k whys.Markup why (sym h ∙ stays) in
        let short = place space a (subst (λ (q : Piece). HasForm InTag false (bytes ++ tail) q rest) g f) in
        let there = same.place in
        let blamed = b.place_is in
        omega arith

pub refused_ok : IsJudgedOnce → (place : Place) (bytes : List ℕ) (k : ℕ) (why : Why) → scan place false bytes ≡ refused k why → IsRefused place bytes k why
refused_ok once Start bytes k why e = inl (never_outside once Start bytes k why tt e, marked_refused bytes (mark_at bytes) k why e)
refused_ok once Marked bytes k why e = inl (never_outside once Marked bytes k why tt e, declared_refused bytes (declares bytes) k why refl e)
refused_ok once Between bytes k why e = inl (never_outside once Between bytes k why tt e, outside_refused bytes k why e)
refused_ok once After bytes k why e = inl (never_outside once After bytes k why tt e, element_refused bytes k why e)
refused_ok once InTag bytes k why e = on (part_refused bytes (behind_spaces bytes) k why (spaced bytes) (behind_is_dark bytes) e)
  where
    on : Refusal bytes k why → IsRefused InTag bytes k why
    on (malformed b) = inl (never_in_tag once bytes k why b e, b)
    on (badly w r) = inr (w, r)
