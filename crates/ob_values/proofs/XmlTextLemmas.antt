-- The characters of a text, up to the first that XML can't carry.
use Rattle.std.proofs.Common.{◌≡◌, ℕ, ◌+◌, ◌<◌, ◌≤◌, List, [], ◌∷◌, ◌++◌, length, take, drop, get_or, true, refl, ap, sym, ◌∙◌, subst, arith, inl, inr}
use Rattle.std.specs.Prelude.{IsUtf8, encode_utf8}
use Rattle.std.specs.Str.{chars, encode_utf8_all}
use Rattle.std.specs.List.{AllByRecursion}
use Rattle.std.proofs.lemmas.Str.{chars-encodes, encodes-append, encode_ascii}
use Rattle.std.proofs.lemmas.List.{take_more, take_all, take-append-drop, at_drop_more, length-append, append-nil}
use Rattle.std.specs.Char.{IsScalar}
use Rattle.std.proofs.lemmas.Bool.{and_parts, leb-true, ltb-true}
use Rattle.ob_values.specs.XmlText.{IsXmlChar, IsXmlText, is_printable, IsFirstBad}
use Rattle.ob_values.proofs.Lists.{all_both}

-- a text is the encoding of its characters
pub encodes_chars : (text : List ℕ) → IsUtf8 text → encode_utf8_all (chars text) ≡ text
encodes_chars text u =
    let same : chars text ≡ u.0 = ap chars (sym u.1.1) ∙ chars-encodes u.0 u.1.0 in
    ap encode_utf8_all same ∙ u.1.1

pub record NextChar (cs : List ℕ) (n c : ℕ) : Type 0 where
  pub front : encode_utf8_all (take (n + 1) cs) ≡ encode_utf8_all (take n cs) ++ encode_utf8 c
  pub cut : take (n + 1) cs ≡ take n cs ++ c ∷ []
  pub rest : drop n cs ≡ c ∷ drop (n + 1) cs

one : (c : ℕ) → encode_utf8_all (c ∷ []) ≡ encode_utf8 c
one c = append-nil (encode_utf8 c)

pub next_char : (cs : List ℕ) (n c : ℕ) → n < length cs → c ≡ get_or cs n c → NextChar cs n c
next_char cs n c h e =
    let cut : take (n + 1) cs ≡ take n cs ++ c ∷ [] = take_more cs n c h ∙ ap (λ (d : ℕ). take n cs ++ d ∷ []) (sym e) in
    record {
      front = ap encode_utf8_all cut ∙ encodes-append (take n cs) (c ∷ []) ∙ ap (λ (t : List ℕ). encode_utf8_all (take n cs) ++ t) (one c);
      cut = cut;
      rest = at_drop_more (λ (t : List ℕ). t) cs n c h ∙ ap (λ (d : ℕ). d ∷ drop (n + 1) cs) (sym e);
    }

-- the front and the rest make the text
pub front_and_rest : (text : List ℕ) (n : ℕ) → IsUtf8 text → text ≡ encode_utf8_all (take n (chars text)) ++ encode_utf8_all (drop n (chars text))
front_and_rest text n u =
    sym (encodes_chars text u) ∙ ap encode_utf8_all (sym (take-append-drop n (chars text))) ∙ encodes-append (take n (chars text)) (drop n (chars text))

pub all_more : (P : ℕ → Type 0) (xs : List ℕ) (x : ℕ) → AllByRecursion P xs → P x → AllByRecursion P (xs ++ x ∷ [])
all_more P [] x h p = (p, tt)
all_more P (y ∷ ys) x h p = (h.0, all_more P ys x h.1 p)

pub first_bad : (text : List ℕ) (n c at : ℕ) → IsUtf8 text → NextChar (chars text) n c → at ≡ length (encode_utf8_all (take n (chars text))) → AllByRecursion IsXmlChar (take n (chars text)) → ¬ (IsXmlChar c) → IsScalar c → IsFirstBad text at
first_bad text n c at u next place good bad scalar =
    record {
      front = encode_utf8_all (take n (chars text));
      bad = c;
      scalar = scalar;
      rest = encode_utf8_all (drop (n + 1) (chars text));
      place = place;
      good_front = (take n (chars text), good, refl);
      not_xml = bad;
      bytes_are = front_and_rest text n u ∙ ap (λ (t : List ℕ). encode_utf8_all (take n (chars text)) ++ encode_utf8_all t) next.rest;
    }

-- places stay within the text
pub place_within : (text : List ℕ) (n : ℕ) → IsUtf8 text → length (encode_utf8_all (take n (chars text))) ≤ length text
place_within text n u = omega (arith, ap length (front_and_rest text n u), length-append (encode_utf8_all (take n (chars text))) (encode_utf8_all (drop n (chars text))))

pub all_good : (text : List ℕ) (n : ℕ) → IsUtf8 text → n ≡ length (chars text) → AllByRecursion IsXmlChar (take n (chars text)) → IsXmlText text
all_good text n u e good =
    (chars text, subst (AllByRecursion IsXmlChar) (take_all n (chars text) (omega (arith, e))) good, encodes_chars text u)

-- ---- texts that are put together

pub xml_append : (xs ys : List ℕ) → IsXmlText xs → IsXmlText ys → IsXmlText (xs ++ ys)
xml_append xs ys a b = (
  a.0 ++ b.0,
  all_both IsXmlChar a.0 b.0 a.1 b.1,
  encodes-append a.0 b.0 ∙ ap (λ (t : List ℕ). t ++ encode_utf8_all b.0) a.2 ∙ ap (λ (t : List ℕ). xs ++ t) b.2,
)

pub printable_xml : (text : List ℕ) → is_printable text ≡ true → IsXmlText text
printable_xml [] h = ([], tt, refl)
printable_xml (c ∷ cs) h =
    let p = and_parts _ _ h in
    let q = and_parts _ _ p.0 in
    let low = leb-true 32 c q.0 in
    let high = ltb-true c 127 q.1 in
    let rest = printable_xml cs p.1 in (
      c ∷ rest.0,
      (inr (inr (inr (inl (low, omega arith)))), rest.1),
      ap (λ (t : List ℕ). t ++ encode_utf8_all rest.0) (encode_ascii c (omega arith)) ∙ ap (λ (t : List ℕ). c ∷ t) rest.2,
    )
