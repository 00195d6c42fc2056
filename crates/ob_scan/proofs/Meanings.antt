-- What may be found at a place: nothing is waited for at the end, the end is found there alone, and the value of an
-- attribute that was found stands for a text.
use Rattle.std.proofs.Common.{◌≡◌, ℕ, ◌+◌, ◌-◌, ◌*◌, ◌<◌, ◌≤◌, Bool, true, false, ◌&&◌, ◌||◌, cond, eqb, suc, zero, List, [], ◌∷◌, ◌++◌, length, Option, Some, None, Result, Ok, Err, ◌⊎◌, inl, inr, refl, sym, ap, subst, ◌∙◌, arith}
use Rattle.std.specs.Prelude.{codes, IfSome, encode_utf8}
use Rattle.std.specs.Option.{option_map}
use Rattle.std.proofs.lemmas.Bool.Decides.{nat_tests}
use Rattle.std.proofs.lemmas.Bool.{and_parts, eqb-true, cond-false}
use Rattle.ob_scan.specs.declared.stop.Stop.{Stop}
use Rattle.ob_scan.specs.declared.stop.Stop.TheVariants.{Want, Malformed}
use Rattle.ob_scan.specs.declared.reading.Ends.{Ends}
use Rattle.ob_scan.specs.declared.reading.Ends.TheVariants.{Name, Target, Value}
use Rattle.ob_scan.specs.declared.character.Progress.{Progress}
use Rattle.ob_scan.specs.declared.character.Progress.TheVariants.{Whole, Tail, BehindEf}
use Rattle.ob_scan.specs.declared.piece.Place.{Place}
use Rattle.ob_scan.specs.declared.piece.Place.TheVariants.{Start, Marked, Between, InTag, After}
use Rattle.ob_scan.specs.declared.piece.Why.TheVariants.{Text, Markup}
use Rattle.ob_scan.specs.declared.piece.Piece.{Piece}
use Rattle.ob_scan.specs.declared.piece.Piece.TheVariants as pieces
use Rattle.ob_scan.specs.declared.piece.Found.TheVariants as finds
use Rattle.ob_scan.specs.View.{construct_of, HasValue}
use Rattle.ob_scan.specs.Judgement.{MayStand, WellFound, IsWellFound}
use Rattle.ob_scan.specs.Characters.{within, after_byte}
use Rattle.ob_scan.specs.Reading.{◌>>=◌, is_whole, literal, spaces, ends_at, run_from, run, word, behind_spaces, behind_pair}
use Rattle.ob_scan.specs.Constructs.{Construct, opening, attribute, tag_end, empty_end, closing, skipped, ending, mark, Scanned, found, more, refused, wanting, judged, comment_at, is_xml, behind_target, instruction_at, end_tag_at, tag_name_at, markup_at, closed_by, value_at, attribute_at, is_char, base, digit, then_read, or_read, number_from, number_at, behind_hash, numeric_at, read_as, entity_at, reference_at, is_bad_at, bad_reference, checked, attribute_found, empty_end_at, tag_part, blank, outside, behind_element, version_at, encoding_at, standalone_at, optional, declaration_at, declares, declared, mark_at, marked, scan}
use Rattle.ob_scan.specs.Expansion.{stop_or, character_from, behind_line_feed, item_at, Expands, IsBadAt, plain_or}
use Rattle.ob_scan.specs.Expansion as expansion
use Rattle.ob_scan.proofs.Expanding.{item_shorter}

-- ---- values of which each byte is part of a character or a reference

abbrev pub chars_from : Progress → List ℕ → Bool
chars_from progress [] = is_whole progress
chars_from progress (b ∷ bytes) = plain_or (after_byte progress b) (λ next. chars_from next bytes)

abbrev pub Good : List ℕ → Type 0
Good bytes = (chars_from Whole bytes ≡ true) × (bad_reference bytes ≡ None)

abbrev RunsWell : Progress → Result (List ℕ × List ℕ) Stop → Type 0
RunsWell progress (Ok x) = chars_from progress x.0 ≡ true
RunsWell progress (Err e) = Unit {0}

run_chars : (ends : Ends) (progress : Progress) (bytes : List ℕ) → RunsWell progress (run_from ends progress bytes)
run_chars ends progress [] = tt
run_chars ends progress (b ∷ bytes) = by_test (λ next. run_chars ends next bytes) (is_whole progress && ends_at ends b) refl
  where
    grown : (next : Progress) → after_byte progress b ≡ Ok next → (r : Result (List ℕ × List ℕ) Stop) → RunsWell next r → RunsWell progress (r >>= λ x. Ok (b ∷ x.0, x.1))
    grown next e (Ok x) h = rw e h
    grown next e (Err y) h = tt

    on : (r : Result Progress Stop) → after_byte progress b ≡ r → ((next : Progress) → RunsWell next (run_from ends next bytes)) → RunsWell progress (r >>= λ next. run_from ends next bytes >>= λ x. Ok (b ∷ x.0, x.1))
    on (Ok next) e h = grown next e (run_from ends next bytes) (h next)
    on (Err y) e h = tt

    by_test : ((next : Progress) → RunsWell next (run_from ends next bytes)) → (v : Bool) → (is_whole progress && ends_at ends b) ≡ v → RunsWell progress (cond v (Ok ([], b ∷ bytes)) (after_byte progress b >>= λ next. run_from ends next bytes >>= λ x. Ok (b ∷ x.0, x.1)))
    by_test later true e = (and_parts _ _ e).0
    by_test later false e = on (after_byte progress b) refl later

no_suc : (o : Option ℕ) → option_map suc o ≡ None → o ≡ None
no_suc None e = refl
no_suc (Some k) e = absurd cc

bad_parts : (b : ℕ) (bytes : List ℕ) → bad_reference (b ∷ bytes) ≡ None → (is_bad_at b bytes ≡ false) × (bad_reference bytes ≡ None)
bad_parts b bytes e = on (is_bad_at b bytes) refl e
  where
    on : (v : Bool) → is_bad_at b bytes ≡ v → cond v (Some 0) (option_map suc (bad_reference bytes)) ≡ None → (is_bad_at b bytes ≡ false) × (bad_reference bytes ≡ None)
    on true is h = absurd cc
    on false is h = (is, no_suc (bad_reference bytes) h)

bad_after : (front rest : List ℕ) → bad_reference (front ++ rest) ≡ None → bad_reference rest ≡ None
bad_after [] rest e = e
bad_after (b ∷ front) rest e = bad_after front rest (bad_parts b (front ++ rest) e).1

ascii_step : (b : ℕ) → within 0x20 0x7F b ≡ true → after_byte Whole b ≡ Ok Whole
ascii_step b h = let t : (eqb b 9 || eqb b 10 || eqb b 13 || within 0x20 0x7F b) ≡ true = grind (arith, nat_tests) in rw t refl

good_step : (b : ℕ) (bytes : List ℕ) → after_byte Whole b ≡ Ok Whole → Good (b ∷ bytes) → Good bytes
good_step b bytes e g = (rw e at g.0, (bad_parts b bytes g.1).1)

-- ---- references leave a good value

abbrev are_ascii : List ℕ → Bool
are_ascii [] = true
are_ascii (b ∷ bytes) = within 0x20 0x7F b && are_ascii bytes

abbrev LeavesGood : Option (ℕ × List ℕ) → Type 0
LeavesGood o = IfSome o (λ x. Good x.1)

abbrev ReadsGood : Result (List ℕ) Stop → Type 0
ReadsGood (Ok x) = Good x
ReadsGood (Err e) = Unit {0}

literal_good : (text bytes : List ℕ) → are_ascii text ≡ true → Good bytes → ReadsGood (literal text bytes)
literal_good [] bytes a g = g
literal_good (c ∷ cs) [] a g = tt
literal_good (c ∷ cs) (b ∷ bytes) a g = by_test (λ h. literal_good cs bytes (and_parts _ _ a).1 h) (eqb b c) refl
  where
    by_test : (Good bytes → ReadsGood (literal cs bytes)) → (v : Bool) → eqb b c ≡ v → ReadsGood (cond v (literal cs bytes) (Err Malformed))
    by_test later true e =
        let is : b ≡ c = eqb-true b c e in
        let step : after_byte Whole b ≡ Ok Whole = subst (λ (n : ℕ). after_byte Whole n ≡ Ok Whole) (sym is) (ascii_step c (and_parts _ _ a).0) in
        later (good_step b bytes step g)
    by_test later false e = tt

entity_good : (text : List ℕ) (c : ℕ) (bytes : List ℕ) → are_ascii text ≡ true → Good bytes → LeavesGood (entity_at text c bytes)
entity_good text c bytes a g = on (literal text bytes) (literal_good text bytes a g)
  where
    on : (r : Result (List ℕ) Stop) → ReadsGood r → LeavesGood (read_as c r)
    on (Ok x) h = h
    on (Err e) h = tt

abbrev DigitIsAscii : ℕ → Option ℕ → Type 0
DigitIsAscii b o = IfSome o (λ d. within 0x20 0x7F b ≡ true)

digit_ascii : (hex : Bool) (b : ℕ) → DigitIsAscii b (digit hex b)
digit_ascii hex b = one (within 48 57 b) refl
  where
    three : (v : Bool) → (hex && within 65 70 b) ≡ v → DigitIsAscii b (cond v (Some (b - 55)) None)
    three true e = let h : within 65 70 b ≡ true = (and_parts _ _ e).1 in grind (arith, nat_tests)
    three false e = tt

    two : (v : Bool) → (hex && within 97 102 b) ≡ v → DigitIsAscii b (cond v (Some (b - 87)) (cond (hex && within 65 70 b) (Some (b - 55)) None))
    two true e = let h : within 97 102 b ≡ true = (and_parts _ _ e).1 in grind (arith, nat_tests)
    two false e = three (hex && within 65 70 b) refl

    one : (v : Bool) → within 48 57 b ≡ v → DigitIsAscii b (cond v (Some (b - 48)) (cond (hex && within 97 102 b) (Some (b - 87)) (cond (hex && within 65 70 b) (Some (b - 55)) None)))
    one true e = grind (arith, nat_tests)
    one false e = two (hex && within 97 102 b) refl

number_good : (hex some : Bool) (value : ℕ) (bytes : List ℕ) → Good bytes → LeavesGood (number_from hex some value bytes)
number_good hex some value [] g = tt
number_good hex some value (b ∷ bytes) g = by_test (λ d h. number_good hex true (value * base hex + d) bytes h) (eqb b 59) refl
  where
    on : (o : Option ℕ) → DigitIsAscii b o → ((d : ℕ) → Good bytes → LeavesGood (number_from hex true (value * base hex + d) bytes)) → LeavesGood (then_read o (λ d. number_from hex true (value * base hex + d) bytes))
    on None a h = tt
    on (Some d) a h = h d (good_step b bytes (ascii_step b a) g)

    ends : (v : Bool) → Good bytes → LeavesGood (cond v (Some (value, bytes)) None)
    ends true h = h
    ends false h = tt

    by_test : ((d : ℕ) → Good bytes → LeavesGood (number_from hex true (value * base hex + d) bytes)) → (v : Bool) → eqb b 59 ≡ v → LeavesGood (cond v (cond (some && is_char value) (Some (value, bytes)) None) (then_read (digit hex b) (λ d. number_from hex true (value * base hex + d) bytes)))
    by_test later true e = ends (some && is_char value) (good_step b bytes (ascii_step b (grind (arith, nat_tests))) g)
    by_test later false e = on (digit hex b) (digit_ascii hex b) later

hash_good : (bytes : List ℕ) → Good bytes → LeavesGood (behind_hash bytes)
hash_good [] g = tt
hash_good (b ∷ bytes) g = by_test (eqb b 120) refl
  where
    by_test : (v : Bool) → eqb b 120 ≡ v → LeavesGood (cond v (number_at true bytes) (number_at false (b ∷ bytes)))
    by_test true e = number_good true false 0 bytes (good_step b bytes (ascii_step b (grind (arith, nat_tests))) g)
    by_test false e = number_good false false 0 (b ∷ bytes) g

numeric_good : (bytes : List ℕ) → Good bytes → LeavesGood (numeric_at bytes)
numeric_good [] g = tt
numeric_good (b ∷ bytes) g = by_test (eqb b 35) refl
  where
    by_test : (v : Bool) → eqb b 35 ≡ v → LeavesGood (cond v (behind_hash bytes) None)
    by_test true e = hash_good bytes (good_step b bytes (ascii_step b (grind (arith, nat_tests))) g)
    by_test false e = tt

either : (r s : Option (ℕ × List ℕ)) → LeavesGood r → LeavesGood s → LeavesGood (or_read r s)
either None s p q = q
either (Some x) s p q = p

reference_good : (bytes : List ℕ) → Good bytes → LeavesGood (reference_at bytes)
unfolding reference_at
reference_good bytes g =
    either (entity_at (codes "lt;") 60 bytes) (or_read (entity_at (codes "gt;") 62 bytes) (or_read (entity_at (codes "amp;") 38 bytes) (or_read (entity_at (codes "quot;") 34 bytes) (or_read (entity_at (codes "apos;") 39 bytes) (numeric_at bytes))))) (entity_good (codes "lt;") 60 bytes refl g)
    (either (entity_at (codes "gt;") 62 bytes) (or_read (entity_at (codes "amp;") 38 bytes) (or_read (entity_at (codes "quot;") 34 bytes) (or_read (entity_at (codes "apos;") 39 bytes) (numeric_at bytes)))) (entity_good (codes "gt;") 62 bytes refl g)
    (either (entity_at (codes "amp;") 38 bytes) (or_read (entity_at (codes "quot;") 34 bytes) (or_read (entity_at (codes "apos;") 39 bytes) (numeric_at bytes))) (entity_good (codes "amp;") 38 bytes refl g)
    (either (entity_at (codes "quot;") 34 bytes) (or_read (entity_at (codes "apos;") 39 bytes) (numeric_at bytes)) (entity_good (codes "quot;") 34 bytes refl g)
    (either (entity_at (codes "apos;") 39 bytes) (numeric_at bytes) (entity_good (codes "apos;") 39 bytes refl g) (numeric_good bytes g)))))

-- ---- a good value stands for a text

abbrev IsFront : Progress → List ℕ → Type 0
IsFront progress bytes = (cs : List ℕ) × (rest : List ℕ) × (character_from progress bytes ≡ Some (cs, rest)) × (cs ++ rest ≡ bytes) × (chars_from Whole rest ≡ true)

whole_there : (next : Progress) (bytes : List ℕ) → is_whole next ≡ true → chars_from next bytes ≡ true → chars_from Whole bytes ≡ true
whole_there Whole bytes w h = h
whole_there (Tail low high left) bytes w h = absurd cc
whole_there BehindEf bytes w h = absurd cc

front_grown : (progress : Progress) (b : ℕ) (bytes : List ℕ) → chars_from progress (b ∷ bytes) ≡ true → ((next : Progress) → chars_from next bytes ≡ true → is_whole next ≡ false → IsFront next bytes) → IsFront progress (b ∷ bytes)
front_grown progress b bytes e later = on (after_byte progress b) refl e
  where
    by_end : (next : Progress) → after_byte progress b ≡ Ok next → chars_from next bytes ≡ true → (v : Bool) → is_whole next ≡ v → IsFront progress (b ∷ bytes)
    by_end next r h true w = (b ∷ [], bytes, rw r (rw w refl), refl, whole_there next bytes w h)
    by_end next r h false w = let t = later next h w in (b ∷ t.0, t.1, rw r (rw w (rw t.2 refl)), ap (λ (ys : List ℕ). b ∷ ys) t.3, t.4)

    on : (r : Result Progress Stop) → after_byte progress b ≡ r → plain_or r (λ next. chars_from next bytes) ≡ true → IsFront progress (b ∷ bytes)
    on (Err x) r h = absurd cc
    on (Ok next) r h = by_end next r h (is_whole next) refl

front_there : (progress : Progress) (bytes : List ℕ) → chars_from progress bytes ≡ true → is_whole progress ≡ false → IsFront progress bytes
front_there progress [] e w = absurd cc
front_there progress (b ∷ bytes) e w = front_grown progress b bytes e (λ next h v. front_there next bytes h v)

abbrev IsItem : List ℕ → Type 0
IsItem bytes = (text : List ℕ) × (rest : List ℕ) × (item_at bytes ≡ Some (text, rest)) × Good rest

line_good : (bytes : List ℕ) → Good bytes → Good (behind_line_feed bytes)
line_good [] g = g
line_good (b ∷ bytes) g = by_test (eqb b 10) refl
  where
    by_test : (v : Bool) → eqb b 10 ≡ v → Good (cond v bytes (b ∷ bytes))
    by_test true e = good_step b bytes (subst (λ (n : ℕ). after_byte Whole n ≡ Ok Whole) (sym (eqb-true b 10 e)) refl) g
    by_test false e = g

item_there : (b : ℕ) (bytes : List ℕ) → Good (b ∷ bytes) → IsItem (b ∷ bytes)
item_there b bytes g = amp (eqb b 38) refl
  where
    referred : eqb b 38 ≡ true → (o : Option (ℕ × List ℕ)) → reference_at bytes ≡ o → LeavesGood o → IsItem (b ∷ bytes)
    referred e None r h =
        let bad : is_bad_at b bytes ≡ true = rw (e, r) refl in
        let no : is_bad_at b bytes ≡ false = (bad_parts b bytes g.1).0 in absurd cc
    referred e (Some x) r h = (encode_utf8 x.0, x.1, rw (e, r) refl, h)

    plain : eqb b 38 ≡ false → eqb b 13 ≡ false → (eqb b 10 || eqb b 9) ≡ false → IsItem (b ∷ bytes)
    plain p q r = let t = front_grown Whole b bytes g.0 (λ next h v. front_there next bytes h v) in (t.0, t.1, cond-false _ _ _ p ∙ cond-false _ _ _ q ∙ cond-false _ _ _ r ∙ t.2, (t.4, bad_after t.0 t.1 (subst (λ (xs : List ℕ). bad_reference xs ≡ None) (sym t.3) g.1)))

    blank_step : (eqb b 10 || eqb b 9) ≡ true → after_byte Whole b ≡ Ok Whole
    blank_step e = let t : (eqb b 9 || eqb b 10 || eqb b 13 || within 0x20 0x7F b) ≡ true = grind (arith, nat_tests) in rw t refl

    blank_or : eqb b 38 ≡ false → eqb b 13 ≡ false → (v : Bool) → (eqb b 10 || eqb b 9) ≡ v → IsItem (b ∷ bytes)
    blank_or p q true r = (32 ∷ [], bytes, rw (p, q, r) refl, good_step b bytes (blank_step r) g)
    blank_or p q false r = plain p q r

    return_or : eqb b 38 ≡ false → (v : Bool) → eqb b 13 ≡ v → IsItem (b ∷ bytes)
    return_or p true q = (32 ∷ [], behind_line_feed bytes, rw (p, q) refl, line_good bytes (good_step b bytes (subst (λ (n : ℕ). after_byte Whole n ≡ Ok Whole) (sym (eqb-true b 13 q)) refl) g))
    return_or p false q = blank_or p q (eqb b 10 || eqb b 9) refl

    amp : (v : Bool) → eqb b 38 ≡ v → IsItem (b ∷ bytes)
    amp true e = referred e (reference_at bytes) refl (reference_good bytes (good_step b bytes (ascii_step b (grind (arith, nat_tests))) g))
    amp false e = return_or e (eqb b 13) refl

abbrev pub HasText : List ℕ → Type 0
HasText raw = (text : List ℕ) × Expands raw text

text_within : (n : ℕ) (raw : List ℕ) → length raw ≤ n → Good raw → HasText raw
text_within n [] le g = ([], expansion.nothing)
text_within zero (b ∷ bytes) le g = absurd (omega arith)
text_within (suc n) (b ∷ bytes) le g =
    let t = item_there b bytes g in
    let lt : length t.1 < length (b ∷ bytes) = item_shorter (b ∷ bytes) t.0 t.1 (sym t.2) in
    let later = text_within n t.1 (omega arith) t.3 in
    (t.0 ++ later.0, expansion.item (b ∷ bytes) t.0 t.1 later.0 t.2 later.1)

pub has_text : (raw : List ℕ) → Good raw → HasText raw
has_text raw g = text_within (length raw) raw (omega arith) g

-- ---- what a value stands for is one text

-- what an item gives, with nothing where there is none
abbrev front_of : Option (List ℕ × List ℕ) → List ℕ
front_of None = []
front_of (Some x) = x.0

abbrev rest_of : Option (List ℕ × List ℕ) → List ℕ
rest_of None = []
rest_of (Some x) = x.1

record Item (raw text : List ℕ) : Type 0 where
  front : List ℕ
  rest : List ℕ
  further : List ℕ
  is : item_at raw ≡ Some (front, rest)
  later : Expands rest further
  parts : text ≡ front ++ further

inverted : (raw text : List ℕ) → Expands raw text → ((raw ≡ []) × (text ≡ [])) ⊎ Item raw text
inverted raw text expansion.nothing = inl (refl, refl)
inverted raw text (expansion.item bytes front rest further e h) = inr (record { front = front; rest = rest; further = further; is = e; later = h; parts = refl })

pub one_text : (raw t u : List ℕ) → Expands raw t → Expands raw u → t ≡ u
one_text raw t u expansion.nothing q = elim (inverted [] u q) [ inl e ↦ sym e.1 | inr x ↦ let i : None ≡ Some (x.front, x.rest) = x.is in absurd cc ]
one_text raw t u (expansion.item bytes front rest further e h) q = elim (inverted bytes u q) [
  | inl n ↦ let i : None ≡ Some (front, rest) = sym (ap item_at n.0) ∙ e in absurd cc
  | inr x ↦
      let i : Some (front, rest) ≡ Some (x.front, x.rest) = sym e ∙ x.is in
      let f : front ≡ x.front = ap front_of i in
      let r : rest ≡ x.rest = ap rest_of i in
      let m : further ≡ x.further = one_text rest further x.further h (subst (λ (xs : List ℕ). Expands xs x.further) (sym r) x.later) in
      ap (λ (xs : List ℕ). xs ++ further) f ∙ ap (λ (xs : List ℕ). x.front ++ xs) m ∙ sym x.parts
]

pub not_bad : (raw text : List ℕ) (k : ℕ) → IsBadAt raw k → Expands raw text → ⊥
not_bad raw text k (expansion.here bytes some e) h = elim (inverted bytes text h) [
  | inl n ↦ let none : length bytes ≡ 0 = ap length n.0 in omega arith
  | inr x ↦ let i : None ≡ Some (x.front, x.rest) = sym e ∙ x.is in absurd cc
]
not_bad raw text k (expansion.later bytes front rest j e b) h = elim (inverted bytes text h) [
  | inl n ↦ let i : None ≡ Some (front, rest) = sym (ap item_at n.0) ∙ e in absurd cc
  | inr x ↦
      let i : Some (front, rest) ≡ Some (x.front, x.rest) = sym e ∙ x.is in
      let r : rest ≡ x.rest = ap rest_of i in
      not_bad rest x.further j b (subst (λ (xs : List ℕ). Expands xs x.further) (sym r) x.later)
]

-- ---- constructs

abbrev pub IsMarkup : Construct → Type 0
IsMarkup (opening name) = Unit {0}
IsMarkup (attribute name raw) = ⊥
IsMarkup tag_end = Unit {0}
IsMarkup empty_end = Unit {0}
IsMarkup (closing name) = Unit {0}
IsMarkup skipped = Unit {0}
IsMarkup ending = ⊥
IsMarkup mark = ⊥

-- what may be found
abbrev pub MayBe : Bool → Construct → Type 0
MayBe ended (opening name) = Unit {0}
MayBe ended (attribute name raw) = Good raw
MayBe ended tag_end = Unit {0}
MayBe ended empty_end = Unit {0}
MayBe ended (closing name) = Unit {0}
MayBe ended skipped = Unit {0}
MayBe ended ending = ended ≡ true
MayBe ended mark = Unit {0}

abbrev pub Fine : Bool → Scanned → Type 0
Fine ended (found c rest) = MayBe ended c
Fine true more = ⊥
Fine false more = Unit {0}
Fine ended (refused k why) = Unit {0}

may_be : (ended : Bool) (c : Construct) → IsMarkup c → MayBe ended c
may_be ended (opening name) h = tt
may_be ended (attribute name raw) h = absurd h
may_be ended tag_end h = tt
may_be ended empty_end h = tt
may_be ended (closing name) h = tt
may_be ended skipped h = tt
may_be ended ending h = absurd h
may_be ended mark h = tt

abbrev Ordinary : Result (Construct × List ℕ) Stop → Type 0
Ordinary (Ok x) = IsMarkup x.0
Ordinary (Err e) = Unit {0}

ordinary_then : {X : Type 0} (r : Result X Stop) (f : X → Result (Construct × List ℕ) Stop) → ((x : X) → Ordinary (f x)) → Ordinary (r >>= f)
ordinary_then (Ok x) f h = h x
ordinary_then (Err e) f h = tt

one_of : (b : Bool) (r s : Result (Construct × List ℕ) Stop) → Ordinary r → Ordinary s → Ordinary (cond b r s)
one_of true r s p q = p
one_of false r s p q = q

comment_ordinary : (bytes : List ℕ) → Ordinary (comment_at bytes)
unfolding comment_at
comment_ordinary bytes = ordinary_then (literal (codes "--") bytes) _ (λ body. ordinary_then (behind_pair 45 45 body) _ (λ behind. ordinary_then (literal (codes ">") behind) _ (λ rest. tt)))

instruction_ordinary : (bytes : List ℕ) → Ordinary (instruction_at bytes)
unfolding instruction_at
instruction_ordinary bytes = ordinary_then (word Target bytes) _ (λ target. ordinary_then (cond (is_xml target.0) (Err Malformed) (behind_target target.1)) _ (λ rest. tt))

end_tag_ordinary : (bytes : List ℕ) → Ordinary (end_tag_at bytes)
unfolding end_tag_at
end_tag_ordinary bytes = ordinary_then (word Name bytes) _ (λ name. ordinary_then (spaces name.1) _ (λ behind. ordinary_then (literal (codes ">") behind) _ (λ rest. tt)))

tag_name_ordinary : (bytes : List ℕ) → Ordinary (tag_name_at bytes)
unfolding tag_name_at
tag_name_ordinary bytes = ordinary_then (word Name bytes) _ (λ name. tt)

markup_ordinary : (bytes : List ℕ) → Ordinary (markup_at bytes)
markup_ordinary [] = tt
markup_ordinary (b ∷ bytes) =
    one_of (eqb b 33) (comment_at bytes) (cond (eqb b 63) (instruction_at bytes) (cond (eqb b 47) (end_tag_at bytes) (tag_name_at (b ∷ bytes)))) (comment_ordinary bytes)
    (one_of (eqb b 63) (instruction_at bytes) (cond (eqb b 47) (end_tag_at bytes) (tag_name_at (b ∷ bytes))) (instruction_ordinary bytes)
    (one_of (eqb b 47) (end_tag_at bytes) (tag_name_at (b ∷ bytes)) (end_tag_ordinary bytes) (tag_name_ordinary (b ∷ bytes))))

declaration_ordinary : (bytes : List ℕ) → Ordinary (declaration_at bytes)
unfolding declaration_at
declaration_ordinary bytes = ordinary_then (spaces bytes) _ (λ first. ordinary_then (version_at first) _ (λ version. ordinary_then (optional 101 encoding_at version) _ (λ encoding. ordinary_then (optional 115 standalone_at encoding) _ (λ standalone. ordinary_then (spaces standalone) _ (λ last. ordinary_then (literal (codes "?>") last) _ (λ rest. tt))))))

-- ---- attributes

abbrev ValueWell : Result (List ℕ × List ℕ) Stop → Type 0
ValueWell (Ok x) = chars_from Whole x.0 ≡ true
ValueWell (Err e) = Unit {0}

abbrev AttributeWell : Result ((List ℕ × List ℕ) × List ℕ) Stop → Type 0
AttributeWell (Ok x) = chars_from Whole x.0.1 ≡ true
AttributeWell (Err e) = Unit {0}

attribute_then : {X : Type 0} (r : Result X Stop) (f : X → Result ((List ℕ × List ℕ) × List ℕ) Stop) → ((x : X) → AttributeWell (f x)) → AttributeWell (r >>= f)
attribute_then (Ok x) f h = h x
attribute_then (Err e) f h = tt

closed_well : (quote : ℕ) (x : List ℕ × List ℕ) → chars_from Whole x.0 ≡ true → ValueWell (closed_by quote x)
closed_well quote (value, []) h = tt
closed_well quote (value, b ∷ rest) h = elim (eqb b quote) as (λ v. ValueWell (cond v (Ok (value, rest)) (Err Malformed))) [ true ↦ h | false ↦ tt ]

value_well : (bytes : List ℕ) → ValueWell (value_at bytes)
value_well [] = tt
value_well (b ∷ bytes) = elim (eqb b 34 || eqb b 39) as (λ v. ValueWell (cond v (run (Value b) bytes >>= closed_by b) (Err Malformed))) [
  | true ↦ on (run (Value b) bytes) (run_chars (Value b) Whole bytes)
  | false ↦ tt
]
  where
    on : (r : Result (List ℕ × List ℕ) Stop) → RunsWell Whole r → ValueWell (r >>= closed_by b)
    on (Ok x) h = closed_well b x h
    on (Err e) h = tt

attribute_well : (bytes : List ℕ) → AttributeWell (attribute_at bytes)
unfolding attribute_at
attribute_well bytes = attribute_then (word Name bytes) _ (λ name. attribute_then (spaces name.1) _ (λ before. attribute_then (literal (codes "=") before) _ (λ behind. attribute_then (spaces behind) _ (λ quoted. on name.0 (value_at quoted) (value_well quoted)))))
  where
    on : (name : List ℕ) (r : Result (List ℕ × List ℕ) Stop) → ValueWell r → AttributeWell (r >>= λ value. Ok ((name, value.0), value.1))
    on name (Ok x) h = h
    on name (Err e) h = tt

-- ---- what stands at a place

fine_wanting : (ended : Bool) (bytes : List ℕ) → Fine ended (wanting ended bytes)
fine_wanting true bytes = tt
fine_wanting false bytes = tt

fine_judged : (ended : Bool) (bytes : List ℕ) (place : ℕ) (r : Result (Construct × List ℕ) Stop) → Ordinary r → Fine ended (judged ended bytes place r)
fine_judged ended bytes place (Ok x) h = may_be ended x.0 h
fine_judged ended bytes place (Err Want) h = fine_wanting ended bytes
fine_judged ended bytes place (Err Malformed) h = tt

fine_either : (ended : Bool) (b : Bool) (r s : Scanned) → Fine ended r → Fine ended s → Fine ended (cond b r s)
fine_either ended true r s p q = p
fine_either ended false r s p q = q

fine_blank : (ended : Bool) (bytes : List ℕ) → Fine ended (blank ended bytes)
fine_blank true [] = tt
fine_blank false [] = tt
fine_blank ended (b ∷ bytes) = fine_either ended (eqb b 60) (found skipped (b ∷ bytes)) (refused 0 Text) tt tt

fine_outside : (ended : Bool) (bytes : List ℕ) → Fine ended (outside ended bytes)
fine_outside ended [] = fine_wanting ended []
fine_outside ended (b ∷ bytes) = fine_either ended (eqb b 60) (judged ended (b ∷ bytes) 0 (markup_at bytes)) (blank ended (behind_spaces (b ∷ bytes))) (fine_judged ended (b ∷ bytes) 0 (markup_at bytes) (markup_ordinary bytes)) (fine_blank ended (behind_spaces (b ∷ bytes)))

fine_behind : (ended : Bool) (bytes : List ℕ) → Fine ended (behind_element ended bytes)
fine_behind true [] = refl
fine_behind false [] = tt
fine_behind ended (b ∷ bytes) = fine_outside ended (b ∷ bytes)

fine_checked : (ended : Bool) (bytes here : List ℕ) (x : (List ℕ × List ℕ) × List ℕ) (o : Option ℕ) → chars_from Whole x.0.1 ≡ true → bad_reference x.0.1 ≡ o → Fine ended (checked bytes here x o)
fine_checked ended bytes here x None h e = (h, e)
fine_checked ended bytes here x (Some k) h e = tt

fine_attribute : (ended : Bool) (bytes here : List ℕ) (r : Result ((List ℕ × List ℕ) × List ℕ) Stop) → AttributeWell r → Fine ended (attribute_found ended bytes here r)
fine_attribute ended bytes here (Ok x) h = fine_checked ended bytes here x (bad_reference x.0.1) h refl
fine_attribute ended bytes here (Err Want) h = fine_wanting ended bytes
fine_attribute ended bytes here (Err Malformed) h = tt

fine_part : (ended : Bool) (bytes here : List ℕ) → Fine ended (tag_part ended bytes here)
fine_part ended bytes [] = fine_wanting ended bytes
fine_part ended bytes (b ∷ rest) =
    fine_either ended (eqb b 62) (found tag_end rest) (cond (eqb b 47) (judged ended bytes (length bytes - length (b ∷ rest)) (empty_end_at rest)) (cond (eqb (length bytes) (length (b ∷ rest))) (refused 0 Markup) (attribute_found ended bytes (b ∷ rest) (attribute_at (b ∷ rest)))))
    tt
    (fine_either ended (eqb b 47) (judged ended bytes (length bytes - length (b ∷ rest)) (empty_end_at rest)) (cond (eqb (length bytes) (length (b ∷ rest))) (refused 0 Markup) (attribute_found ended bytes (b ∷ rest) (attribute_at (b ∷ rest))))
    (fine_judged ended bytes (length bytes - length (b ∷ rest)) (empty_end_at rest) (ordinary_then (literal (codes ">") rest) (λ behind. Ok (empty_end, behind)) (λ behind. tt)))
    (fine_either ended (eqb (length bytes) (length (b ∷ rest))) (refused 0 Markup) (attribute_found ended bytes (b ∷ rest) (attribute_at (b ∷ rest))) tt (fine_attribute ended bytes (b ∷ rest) (attribute_at (b ∷ rest)) (attribute_well (b ∷ rest)))))

fine_declared : (ended : Bool) (bytes : List ℕ) (r : Result (List ℕ) Stop) → Fine ended (declared ended bytes r)
fine_declared ended bytes (Ok rest) = fine_judged ended bytes 0 (declaration_at rest) (declaration_ordinary rest)
fine_declared ended bytes (Err Want) = fine_wanting ended bytes
fine_declared ended bytes (Err Malformed) = fine_outside ended bytes

fine_marked : (ended : Bool) (bytes : List ℕ) (r : Result (List ℕ) Stop) → Fine ended (marked ended bytes r)
fine_marked ended bytes (Ok rest) = tt
fine_marked ended bytes (Err Want) = fine_wanting ended bytes
fine_marked ended bytes (Err Malformed) = fine_declared ended bytes (declares bytes)

pub scan_fine : (place : Place) (ended : Bool) (bytes : List ℕ) → Fine ended (scan place ended bytes)
scan_fine Start ended bytes = fine_marked ended bytes (mark_at bytes)
scan_fine Marked ended bytes = fine_declared ended bytes (declares bytes)
scan_fine Between ended bytes = fine_outside ended bytes
scan_fine InTag ended bytes = fine_part ended bytes (behind_spaces bytes)
scan_fine After ended bytes = fine_behind ended bytes

stands : (ended : Bool) (c : Construct) → MayBe ended c → MayStand ended c
stands ended (opening name) h = tt
stands ended (attribute name raw) h = has_text raw h
stands ended tag_end h = tt
stands ended empty_end h = tt
stands ended (closing name) h = tt
stands ended skipped h = tt
stands ended ending h = h
stands ended mark h = tt

well : (ended : Bool) (s : Scanned) → Fine ended s → WellFound ended s
well ended (found c rest) h = stands ended c h
well true more h = h
well false more h = tt
well ended (refused k why) h = tt

pub well_found : IsWellFound
well_found place ended bytes = well ended (scan place ended bytes) (scan_fine place ended bytes)

pub has_value : (piece : Piece) (first next : ℕ) (ended : Bool) → MayBe ended (construct_of piece) → HasValue (Ok (finds.Piece piece first next))
has_value (pieces.Open name) first next ended h = tt
has_value (pieces.Attr name raw) first next ended h = has_text raw.now h
has_value pieces.TagEnd first next ended h = tt
has_value pieces.EmptyEnd first next ended h = tt
has_value (pieces.Close name) first next ended h = tt
has_value pieces.Skipped first next ended h = tt
has_value pieces.End first next ended h = tt
has_value pieces.Mark first next ended h = tt
