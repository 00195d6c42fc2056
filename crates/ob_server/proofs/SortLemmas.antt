-- A request is sorted in one way.
use Rattle.std.proofs.Common.{◌≡◌, ℕ, ◌<◌, ◌≤◌, Bool, true, false, ◌&&◌, List, [], ◌∷◌, ◌++◌, Option, Some, None, refl, sym, ap, subst, ◌∙◌, append_assoc, inl, inr, MatchBool, arith, cond, nat_lt, nat_le}
use Rattle.std.proofs.lemmas.Bool.{lt-ltb, le-leb}
use Rattle.std.specs.Prelude.{IsUtf8, encode_utf8}
use Rattle.std.specs.Str.{encode_utf8_all}
use Rattle.std.specs.List.{AllByRecursion}
use Rattle.std.proofs.Math.Utf8.{scalars}
use Rattle.std.proofs.lemmas.Str.{cons_from_encodes}
use Rattle.ob_values.specs.XmlText.{IsXmlChar, IsXmlText}
use Rattle.ob_values.specs.declared.fault.TextFault.TheVariants as texts
use Rattle.ob_values.specs.declared.verb.Verb.{Verb}
use Rattle.ob_object.specs.Object.{Object}
use Rattle.ob_documents.specs.Spelling.{Spells}
use Rattle.ob_http.specs.declared.media.Media.{Media}
use Rattle.ob_xml.specs.declared.doc.Doc.{Doc}
use Rattle.ob_xml.specs.declared.refused.Refused.{Refused}
use Rattle.ob_xml.specs.Judged.{Verdict, pending, document, fault, Judged}
use Rattle.ob_xml.specs.Words.{refusal_words}
use Rattle.ob_server.specs.Refusal.{refusal_body}
use Rattle.ob_server.specs.Sort.{SortingIsOne, SortsVerb, SortsTarget, SortsBody, IsNoText, has_body, is_other, refusal, verb_of}
use Rattle.ob_server.specs.declared.sort.Sorted.{Sorted}
use Rattle.ob_server.specs.declared.sort.Sorted.TheVariants.{Step}

-- ---- a text of XML characters is no other

pub low : (c : ℕ) → c < 55296 → cond (nat_lt c 55296) true (nat_le 57344 c && nat_lt c 1114112) ≡ true
low c h = rw (lt-ltb _ _ h) refl

pub high : (c : ℕ) (b : Bool) → 57344 ≤ c → c < 1114112 → cond b true (nat_le 57344 c && nat_lt c 1114112) ≡ true
high c true l h = refl
high c false l h = rw (le-leb _ _ l, lt-ltb _ _ h) refl

pub scalar_char : (c : ℕ) → IsXmlChar c → cond (nat_lt c 55296) true (nat_le 57344 c && nat_lt c 1114112) ≡ true
scalar_char c (inl e) = low c (omega (arith, e))
scalar_char c (inr (inl e)) = low c (omega (arith, e))
scalar_char c (inr (inr (inl e))) = low c (omega (arith, e))
scalar_char c (inr (inr (inr (inl r)))) = low c (omega (arith, r.1))
scalar_char c (inr (inr (inr (inr (inl r))))) = high c _ r.0 (omega (arith, r.1))
scalar_char c (inr (inr (inr (inr (inr r))))) = high c _ (omega (arith, r.0)) (omega (arith, r.1))

xml_utf8 : (bytes : List ℕ) → IsXmlText bytes → IsUtf8 bytes
xml_utf8 bytes (cs, good, are) = (cs, (all cs good, are))
  where
    both : (a b : Bool) → a ≡ true → b ≡ true → (a && b) ≡ true
    both a b x y = rw (x, y) refl

    all : (ds : List ℕ) → AllByRecursion IsXmlChar ds → scalars ds ≡ true
    all [] h = refl
    all (d ∷ ds) h = both _ _ (scalar_char d h.0) (all ds h.1)

-- a character that stands behind others is one of the text
pub has_char : (fs cs rest : List ℕ) (c : ℕ) → encode_utf8_all cs ≡ encode_utf8_all fs ++ (encode_utf8 c ++ rest) → AllByRecursion IsXmlChar cs → IsXmlChar c
has_char [] cs rest c e all =
    let k = cons_from_encodes cs rest c e in
    (subst (AllByRecursion IsXmlChar) k.1 all).0
has_char (f ∷ fs) cs rest c e all =
    let k = cons_from_encodes cs (encode_utf8_all fs ++ (encode_utf8 c ++ rest)) f (e ∙ append_assoc (encode_utf8 f) (encode_utf8_all fs) (encode_utf8 c ++ rest)) in
    has_char fs k.0 rest c k.2 (subst (AllByRecursion IsXmlChar) k.1 all).1

text_is_text : (bytes : List ℕ) → IsXmlText bytes → IsNoText bytes → ⊥
text_is_text bytes text (texts.NotUtf8, counts, denied) = denied (xml_utf8 bytes text)
text_is_text bytes (cs, good, are) (texts.NotXmlChar at, counts, told) =
    let bad = told.1 in
    bad.not_xml (has_char bad.good_front.0 cs bad.rest bad.bad
    (are ∙ bad.bytes_are ∙ ap (λ (l : List ℕ). l ++ (encode_utf8 bad.bad ++ bad.rest)) (sym bad.good_front.2)) good)
text_is_text bytes text (texts.Memory, counts, told) = counts refl

-- ---- bodies

abbrev document_of : Doc → Verdict → Doc
document_of d (document e) = e
document_of d pending = d
document_of d (fault at why) = d

abbrev refused_of : Refused → Verdict → Refused
refused_of r (fault at why) = record { at = at; why = why }
refused_of r pending = r
refused_of r (document d) = r

module _ (only : (bytes : List ℕ) (ns : Option (List ℕ)) (o : Object) → Spells bytes ns o → Judged bytes true (document (record { ns = ns; root = o })))
    (one : (bytes : List ℕ) (ended : Bool) (v w : Verdict) → Judged bytes ended v → Judged bytes ended w → v ≡ w) where
  one_body : (verb : Verb) (target body : List ℕ) (has : Bool) (a b : Sorted) → SortsBody verb target has body a → SortsBody verb target has body b → a ≡ b
  one_body verb target body false a b x y = x ∙ sym y
  one_body verb target body true a b (inl x) (inl y) =
      let same = one body true _ _ (only body x.ns x.root x.spelled) (only body y.ns y.root y.spelled) in
      let d : Doc = record { ns = x.ns; root = x.root } in
      x.is ∙ ap (λ (v : Verdict). Step (record { verb = verb; target = target; body = Some (document_of d v).root })) same ∙ sym y.is
  one_body verb target body true a b (inl x) (inr y) =
      absurd (let no = one body true _ _ (only body x.ns x.root x.spelled) y.judged in cc)
  one_body verb target body true a b (inr x) (inl y) =
      absurd (let no = one body true _ _ x.judged (only body y.ns y.root y.spelled) in cc)
  one_body verb target body true a b (inr x) (inr y) =
      let same = one body true _ _ x.judged y.judged in
      x.is.1 ∙ ap (λ (v : Verdict). refusal (refusal_body (refusal_words (refused_of x.refused v)))) same ∙ sym y.is.1

  one_target : (verb : Verb) (target body : List ℕ) (has : Bool) (a b : Sorted) → SortsTarget verb target has body a → SortsTarget verb target has body b → a ≡ b
  one_target verb target body has a b (inl x) (inl y) = one_body verb target body has a b x.1 y.1
  one_target verb target body has a b (inl x) (inr y) = absurd (text_is_text target x.0 y.0)
  one_target verb target body has a b (inr x) (inl y) = absurd (text_is_text target y.0 x.0)
  one_target verb target body has a b (inr x) (inr y) = x.1 ∙ sym y.1

  one_media : (other : Bool) (line : Sorted) (verb : Verb) (target body : List ℕ) (has : Bool) (a b : Sorted)
      → MatchBool other (a ≡ line) (SortsTarget verb target has body a) → MatchBool other (b ≡ line) (SortsTarget verb target has body b) → a ≡ b
  one_media true line verb target body has a b x y = x ∙ sym y
  one_media false line verb target body has a b x y = one_target verb target body has a b x y

  one_verb : (verb : Option Verb) (target : List ℕ) (media : Media) (body : List ℕ) (a b : Sorted)
      → SortsVerb verb target media body a → SortsVerb verb target media body b → a ≡ b
  one_verb None target media body a b x y = x ∙ sym y
  one_verb (Some verb) target media body a b x y =
      one_media (has_body verb body && is_other media) _ verb target body (has_body verb body) a b x y

  pub sorting_is_one : SortingIsOne
  sorting_is_one method target media body a b x y = one_verb (verb_of method) target media body a b x y
