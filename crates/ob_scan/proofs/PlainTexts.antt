-- Values in which nothing stands for something else.
use Rattle.std.proofs.Common.{◌≡◌, ℕ, ◌<◌, Bool, true, false, ◌&&◌, ◌||◌, not, cond, eqb, List, [], ◌∷◌, ◌++◌, Option, Some, None, Result, Ok, Err, refl, sym, ap, subst, ◌∙◌, arith}
use Rattle.std.specs.Str.{IsUtf8}
use Rattle.std.proofs.lemmas.Str.{IsUtf8-append, IsUtf8-nil}
use Rattle.std.proofs.lemmas.Bool.Decides.{nat_tests}
use Rattle.std.proofs.lemmas.Bool.{and_parts, cond-false}
use Rattle.ob_values.specs.XmlText.{IsXmlText}
use Rattle.ob_scan.specs.declared.stop.Stop.{Stop}
use Rattle.ob_scan.specs.declared.character.Progress.{Progress}
use Rattle.ob_scan.specs.declared.character.Progress.TheVariants.{Whole, Tail, BehindEf}
use Rattle.ob_scan.specs.Characters.{after_byte}
use Rattle.ob_scan.specs.Reading.{is_whole}
use Rattle.ob_scan.specs.Expansion.{character_from, item_at, Expands, is_replaced, plain_or, plain_from, is_plain}
use Rattle.ob_scan.specs.Expansion as expansion
use Rattle.ob_scan.proofs.Expanding.{Holds, IsCharacter, one_character, character_utf8}
use Rattle.ob_scan.proofs.XmlTexts.{xml_none, xml_both, character_xml}

-- what a plain value is
pub record IsPlainText (bytes : List ℕ) : Type 0 where
  pub utf8 : IsUtf8 bytes
  pub xml : IsXmlText bytes
  pub itself : Expands bytes bytes

nothing_plain : IsPlainText []
nothing_plain = record { utf8 = IsUtf8-nil; xml = xml_none; itself = expansion.nothing }

one_plain : (cs rest : List ℕ) → IsCharacter cs → item_at (cs ++ rest) ≡ Some (cs, rest) → IsPlainText rest → IsPlainText (cs ++ rest)
one_plain cs rest c i t = record {
  utf8 = IsUtf8-append cs rest (character_utf8 cs c) t.utf8;
  xml = xml_both cs rest (character_xml cs c) t.xml;
  itself = expansion.item (cs ++ rest) cs rest rest i t.itself;
}

abbrev IsTail : Progress → List ℕ → Type 0
IsTail progress bytes = (cs : List ℕ) × (rest : List ℕ) × (character_from progress bytes ≡ Some (cs, rest)) × (cs ++ rest ≡ bytes) × IsPlainText rest

record Reads (progress : Progress) (bytes : List ℕ) : Type 0 where
  text : is_whole progress ≡ true → IsPlainText bytes
  tail : is_whole progress ≡ false → IsTail progress bytes

stands_for_itself : (b : ℕ) (bytes : List ℕ) → not (is_replaced b) ≡ true → item_at (b ∷ bytes) ≡ character_from Whole (b ∷ bytes)
stands_for_itself b bytes e =
    let amp : eqb b 38 ≡ false = grind (arith, nat_tests) in
    let return : eqb b 13 ≡ false = grind (arith, nat_tests) in
    let blank : (eqb b 10 || eqb b 9) ≡ false = grind (arith, nat_tests) in
    cond-false _ _ _ amp ∙ cond-false _ _ _ return ∙ cond-false _ _ _ blank

from_tail : (progress : Progress) (b : ℕ) (bytes : List ℕ) → not (is_replaced b) ≡ true → IsTail progress (b ∷ bytes) → Reads progress (b ∷ bytes)
from_tail Whole b bytes plain t = record {
  text = λ _.
      let c : Holds IsCharacter (Some (t.0, t.1)) = subst (Holds IsCharacter) t.2 (one_character (b ∷ bytes)) in
      let i : item_at (t.0 ++ t.1) ≡ Some (t.0, t.1) = ap item_at t.3 ∙ stands_for_itself b bytes plain ∙ t.2 in
      subst IsPlainText t.3 (one_plain t.0 t.1 c i t.4);
  tail = λ e. t;
}
from_tail (Tail low high more) b bytes plain t = record { text = λ e. absurd cc; tail = λ e. t }
from_tail BehindEf b bytes plain t = record { text = λ e. absurd cc; tail = λ e. t }

plain_reads : (progress : Progress) (bytes : List ℕ) → plain_from progress bytes ≡ true → Reads progress bytes
plain_reads progress [] e = record { text = λ _. nothing_plain; tail = λ f. absurd cc }
plain_reads progress (b ∷ bytes) e = from_tail progress b bytes (and_parts _ _ e).0 (on (after_byte progress b) refl (and_parts _ _ e).1 (λ next h. plain_reads next bytes h))
  where
    by_end : (next : Progress) → after_byte progress b ≡ Ok next → Reads next bytes → (v : Bool) → is_whole next ≡ v → IsTail progress (b ∷ bytes)
    by_end next r reads true w = (b ∷ [], bytes, rw r (rw w refl), refl, reads.text w)
    by_end next r reads false w = let t = reads.tail w in (b ∷ t.0, t.1, rw r (rw w (rw t.2 refl)), ap (λ (xs : List ℕ). b ∷ xs) t.3, t.4)

    on : (r : Result Progress Stop) → after_byte progress b ≡ r → plain_or r (λ next. plain_from next bytes) ≡ true → ((next : Progress) → plain_from next bytes ≡ true → Reads next bytes) → IsTail progress (b ∷ bytes)
    on (Err x) r h later = absurd cc
    on (Ok next) r h later = by_end next r (later next h) (is_whole next) refl

pub plain_text : (bytes : List ℕ) → true ≡ is_plain bytes → IsPlainText bytes
plain_text bytes e = (plain_reads Whole bytes (sym e)).text refl

-- what a value gives that is given as it stands where it is plain
pub record GivenPlain (raw text : List ℕ) : Type 0 where
  pub same : text ≡ raw
  pub expands : Expands raw text

pub given_plain : (raw text : List ℕ) → Some text ≡ cond (is_plain raw) (Some raw) None → GivenPlain raw text
given_plain raw text e = on (is_plain raw) refl e
  where
    on : (v : Bool) → is_plain raw ≡ v → Some text ≡ cond v (Some raw) None → GivenPlain raw text
    on true p e =
        let same : text ≡ raw = cc in
        record { same = same; expands = subst (Expands raw) (sym same) (plain_text raw (sym p)).itself }
    on false p e = absurd cc
