-- A text that is written with its references is read back.
use Rattle.std.proofs.Common.{◌≡◌, ℕ, ◌≤◌, Bool, true, false, cond, ◌&&◌, ◌||◌, not, eqb, List, [], ◌∷◌, ◌++◌, Option, Some, None, Ok, refl, sym, ap, ◌∙◌, subst, arith}
use Rattle.std.specs.Prelude.{IsTrue, codes}
use Rattle.std.specs.Char.{encode_utf8}
use Rattle.std.specs.Str.{encode_utf8_all}
use Rattle.std.specs.List.{AllByRecursion, list_all}
use Rattle.std.proofs.lemmas.Bool.Decides.{nat_tests}
use Rattle.ob_values.specs.XmlText.{IsXmlChar, IsXmlText}
use Rattle.ob_values.proofs.Bools.{and_first, and_second, not_true}
use Rattle.ob_scan.specs.declared.character.Progress.TheVariants.{Whole}
use Rattle.ob_scan.specs.declared.reading.Ends.{Ends}
use Rattle.ob_scan.specs.declared.reading.Ends.TheVariants.{Value}
use Rattle.ob_scan.specs.Characters.{within, after_byte}
use Rattle.ob_scan.specs.Reading.{ends_at}
use Rattle.ob_scan.specs.Constructs.{then_read, reference_at, bad_reference}
use Rattle.ob_scan.specs.Expansion.{character_from, behind_line_feed, item_at, Expands, nothing, item}
use Rattle.ob_encoding.specs.Escaped.{escape, escaped}
use Rattle.ob_documents.proofs.Characters.{RunsTo, Walk, walk_item, walk_runs, AreHigh, CharWalk, IsPlain, Sort, tab, line_feed, return, quote, ampersand, less_than, plain, wide, sort_of}

-- ---- bytes of ASCII

-- from space on, and none at which a run ends
abbrev pub is_ascii : Ends → ℕ → Bool
is_ascii ends b = within 0x20 0x7F b && not (ends_at ends b)

ascii_byte : (b : ℕ) → within 0x20 0x7F b ≡ true → after_byte Whole b ≡ Ok Whole
ascii_byte b e = grind (arith, nat_tests)

pub run_ascii : (ends : Ends) (bytes more : List ℕ) → IsTrue (list_all (is_ascii ends) bytes) → RunsTo ends Whole more → RunsTo ends Whole (bytes ++ more)
run_ascii ends [] more h r = r
run_ascii ends (b ∷ bytes) more h r =
    let here : is_ascii ends b ≡ true = and_first (is_ascii ends b) (list_all (is_ascii ends) bytes) h in
    let rest : list_all (is_ascii ends) bytes ≡ true = and_second (is_ascii ends b) (list_all (is_ascii ends) bytes) h in
    let inner : ends_at ends b ≡ false = not_true (ends_at ends b) (and_second (within 0x20 0x7F b) (not (ends_at ends b)) here) in
    (inner, Whole, ascii_byte b (and_first (within 0x20 0x7F b) (not (ends_at ends b)) here), run_ascii ends bytes more rest r)

-- ---- high bytes

pub escape_high : (b : ℕ) → 128 ≤ b → escape b ≡ b ∷ []
escape_high b h =
    let p : eqb b 38 ≡ false = grind (arith, nat_tests) in
    let q : eqb b 60 ≡ false = grind (arith, nat_tests) in
    let r : eqb b 34 ≡ false = grind (arith, nat_tests) in
    let s : eqb b 9 ≡ false = grind (arith, nat_tests) in
    let t : eqb b 10 ≡ false = grind (arith, nat_tests) in
    let u : eqb b 13 ≡ false = grind (arith, nat_tests) in
    rw (p, q, r, s, t, u) refl

pub escaped_high : (bytes more : List ℕ) → AreHigh bytes → escaped (bytes ++ more) ≡ bytes ++ escaped more
escaped_high [] more h = refl
escaped_high (b ∷ bytes) more h = ap (λ (t : List ℕ). t ++ escaped (bytes ++ more)) (escape_high b h.0) ∙ ap (λ (t : List ℕ). b ∷ t) (escaped_high bytes more h.1)

value_inner : (b : ℕ) → 128 ≤ b → ends_at (Value 34) b ≡ false
value_inner b h = grind (arith, nat_tests)

no_bad_high : (bytes more : List ℕ) → AreHigh bytes → bad_reference more ≡ None → bad_reference (bytes ++ more) ≡ None
no_bad_high [] more h e = e
no_bad_high (b ∷ bytes) more h e =
    let p : eqb b 38 ≡ false = grind (arith, nat_tests, h.0) in
    rw (p, no_bad_high bytes more h.1 e) refl

other : (p q r s : Bool) (x y z w : Option (List ℕ × List ℕ)) → p ≡ false → q ≡ false → r ≡ false → s ≡ false → cond p x (cond q y (cond (r || s) z w)) ≡ w
other p q r s x y z w a b c d = rw (a, b, c, d) refl

item_other : (b : ℕ) (bytes : List ℕ) → eqb b 38 ≡ false → eqb b 13 ≡ false → eqb b 10 ≡ false → eqb b 9 ≡ false → item_at (b ∷ bytes) ≡ character_from Whole (b ∷ bytes)
item_other b bytes p q r s = other (eqb b 38) (eqb b 13) (eqb b 10) (eqb b 9) (then_read (reference_at bytes) (λ x. Some (encode_utf8 x.0, x.1))) (Some (32 ∷ [], behind_line_feed bytes)) (Some (32 ∷ [], bytes)) (character_from Whole (b ∷ bytes)) p q r s

high_item : (b : ℕ) (bytes rest : List ℕ) → 128 ≤ b → Walk Whole (b ∷ bytes) → item_at (b ∷ (bytes ++ rest)) ≡ Some (b ∷ bytes, rest)
high_item b bytes rest h w =
    let p : eqb b 38 ≡ false = grind (arith, nat_tests) in
    let s : eqb b 13 ≡ false = grind (arith, nat_tests) in
    let t : eqb b 10 ≡ false = grind (arith, nat_tests) in
    let u : eqb b 9 ≡ false = grind (arith, nat_tests) in
    item_other b (bytes ++ rest) p s t u ∙ walk_item Whole (b ∷ bytes) rest w

-- ---- the characters of a text

escape_plain : (c : ℕ) → IsPlain c → escape c ≡ c ∷ []
escape_plain c h =
    let s : eqb c 9 ≡ false = grind (arith, nat_tests, h.least) in
    let t : eqb c 10 ≡ false = grind (arith, nat_tests, h.least) in
    let u : eqb c 13 ≡ false = grind (arith, nat_tests, h.least) in
    rw (h.no_and, h.no_less, h.no_quote, s, t, u) refl

plain_inner : (c : ℕ) → IsPlain c → ends_at (Value 34) c ≡ false
plain_inner c h = rw (h.no_quote, h.no_less) refl

plain_step : (c : ℕ) → IsPlain c → after_byte Whole c ≡ Ok Whole
plain_step c h = let e : within 0x20 0x7F c ≡ true = grind (arith, nat_tests, h.least, h.most) in ascii_byte c e

plain_item : (c : ℕ) (rest : List ℕ) → IsPlain c → item_at (c ∷ rest) ≡ Some (c ∷ [], rest)
plain_item c rest h =
    let s : eqb c 13 ≡ false = grind (arith, nat_tests, h.least) in
    let t : eqb c 10 ≡ false = grind (arith, nat_tests, h.least) in
    let u : eqb c 9 ≡ false = grind (arith, nat_tests, h.least) in
    item_other c rest h.no_and s t u ∙ walk_item Whole (c ∷ []) rest (plain_step c h)

-- what a character's text does in front of another text
record Front (c : ℕ) (text : List ℕ) : Type 0 where
  runs : RunsTo (Value 34) Whole (escaped text) → RunsTo (Value 34) Whole (escaped (encode_utf8 c ++ text))
  expands : Expands (escaped text) text → Expands (escaped (encode_utf8 c ++ text)) (encode_utf8 c ++ text)
  fine : bad_reference (escaped text) ≡ None → bad_reference (escaped (encode_utf8 c ++ text)) ≡ None

plain_fine : (c : ℕ) (rest : List ℕ) → IsPlain c → bad_reference rest ≡ None → bad_reference (c ∷ rest) ≡ None
plain_fine c rest p h = rw (p.no_and, h) refl

plain_front : (c : ℕ) (text : List ℕ) → IsPlain c → Front c text
plain_front c text p =
    let bytes : escaped (encode_utf8 c ++ text) ≡ c ∷ escaped text = ap (λ (t : List ℕ). escaped (t ++ text)) p.one ∙ ap (λ (t : List ℕ). t ++ escaped text) (escape_plain c p) in
    let one : encode_utf8 c ++ text ≡ c ∷ text = ap (λ (t : List ℕ). t ++ text) p.one in
    record {
      runs = λ h. subst (λ (t : List ℕ). RunsTo (Value 34) Whole t) (sym bytes) (plain_inner c p, Whole, plain_step c p, h);
      expands = λ h. subst (λ (t : List ℕ). Expands t (encode_utf8 c ++ text)) (sym bytes) (subst (λ (t : List ℕ). Expands (c ∷ escaped text) t) (sym one) (item (c ∷ escaped text) (c ∷ []) (escaped text) text (plain_item c (escaped text) p) h));
      fine = λ h. subst (λ (t : List ℕ). bad_reference t ≡ None) (sym bytes) (plain_fine c (escaped text) p h);
    }

wide_front : (c : ℕ) (text : List ℕ) → CharWalk c → Front c text
wide_front c text w =
    let all : List ℕ = w.first ∷ w.more in
    let bytes : escaped (encode_utf8 c ++ text) ≡ all ++ escaped text = ap (λ (t : List ℕ). escaped (t ++ text)) w.bytes ∙ escaped_high all text w.high in
    let one : encode_utf8 c ++ text ≡ all ++ text = ap (λ (t : List ℕ). t ++ text) w.bytes in
    record {
      runs = λ h. subst (λ (t : List ℕ). RunsTo (Value 34) Whole t) (sym bytes) (walk_runs (Value 34) w.first w.more (escaped text) (value_inner w.first w.high.0) w.walk h);
      expands = λ h. subst (λ (t : List ℕ). Expands t (encode_utf8 c ++ text)) (sym bytes) (subst (λ (t : List ℕ). Expands (all ++ escaped text) t) (sym one) (item (all ++ escaped text) all (escaped text) text (high_item w.first w.more (escaped text) w.high.0 w.walk) h));
      fine = λ h. subst (λ (t : List ℕ). bad_reference t ≡ None) (sym bytes) (no_bad_high all (escaped text) w.high h);
    }

front_of : (c : ℕ) (text : List ℕ) → Sort c → Front c text
unfolding reference_at encode_utf8
front_of c text tab = record {
  runs = λ h. run_ascii (Value 34) (codes "&#9;") (escaped text) refl h;
  expands = λ h. item (codes "&#9;" ++ escaped text) (9 ∷ []) (escaped text) text refl h;
  fine = λ h. rw h refl;
}
front_of c text line_feed = record {
  runs = λ h. run_ascii (Value 34) (codes "&#10;") (escaped text) refl h;
  expands = λ h. item (codes "&#10;" ++ escaped text) (10 ∷ []) (escaped text) text refl h;
  fine = λ h. rw h refl;
}
front_of c text return = record {
  runs = λ h. run_ascii (Value 34) (codes "&#13;") (escaped text) refl h;
  expands = λ h. item (codes "&#13;" ++ escaped text) (13 ∷ []) (escaped text) text refl h;
  fine = λ h. rw h refl;
}
front_of c text quote = record {
  runs = λ h. run_ascii (Value 34) (codes "&quot;") (escaped text) refl h;
  expands = λ h. item (codes "&quot;" ++ escaped text) (34 ∷ []) (escaped text) text refl h;
  fine = λ h. rw h refl;
}
front_of c text ampersand = record {
  runs = λ h. run_ascii (Value 34) (codes "&amp;") (escaped text) refl h;
  expands = λ h. item (codes "&amp;" ++ escaped text) (38 ∷ []) (escaped text) text refl h;
  fine = λ h. rw h refl;
}
front_of c text less_than = record {
  runs = λ h. run_ascii (Value 34) (codes "&lt;") (escaped text) refl h;
  expands = λ h. item (codes "&lt;" ++ escaped text) (60 ∷ []) (escaped text) text refl h;
  fine = λ h. rw h refl;
}
front_of c text (plain d p) = plain_front d text p
front_of c text (wide d w) = wide_front d text w

pub record IsReadBack (text : List ℕ) : Type 0 where
  pub runs : RunsTo (Value 34) Whole (escaped text)
  pub expands : Expands (escaped text) text
  pub fine : bad_reference (escaped text) ≡ None

chars_back : (cs : List ℕ) → AllByRecursion IsXmlChar cs → IsReadBack (encode_utf8_all cs)
chars_back [] h = record { runs = refl; expands = nothing; fine = refl }
chars_back (c ∷ cs) h =
    let rest = chars_back cs h.1 in
    let front = front_of c (encode_utf8_all cs) (sort_of c h.0) in
    record { runs = front.runs rest.runs; expands = front.expands rest.expands; fine = front.fine rest.fine }

-- a text of XML characters, with its references
pub text_back : (text : List ℕ) → IsXmlText text → IsReadBack text
text_back text h = subst IsReadBack h.2 (chars_back h.0 h.1)
