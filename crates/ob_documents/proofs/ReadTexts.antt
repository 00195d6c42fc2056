-- What the value of an attribute stands for is text that XML can carry, and so is each word of it.
use Rattle.std.proofs.Common.{◌≡◌, ℕ, Bool, true, false, ◌||◌, cond, eqb, List, [], ◌∷◌, ◌++◌, length, Option, Some, None, refl, subst, arith}
use Rattle.std.specs.Prelude.{IfSome, encode_utf8}
use Rattle.std.specs.Str.{chars}
use Rattle.std.specs.List.{AllByRecursion}
use Rattle.ob_values.specs.XmlText.{IsXmlChar, IsXmlText}
use Rattle.ob_scan.specs.declared.character.Progress.TheVariants.{Whole}
use Rattle.ob_scan.specs.Constructs.{is_char, then_read, reference_at}
use Rattle.ob_scan.specs.Expansion.{character_from, behind_line_feed, item_at, Expands, nothing, item}
use Rattle.ob_scan.proofs.Expanding.{IsCharacter, reference_char, one_character}
use Rattle.ob_scan.proofs.XmlTexts.{xml_none, xml_both, xml_one, character_xml}
use Rattle.ob_documents.proofs.Characters.{encode_1}
use Rattle.ob_encoding.specs.WordLists.{is_blank, ended, words_from, words_of}
use Rattle.ob_encoding.proofs.WordRuns.{chars_xml, xml_more}

abbrev Carries : Option (List ℕ × List ℕ) → Type 0
Carries o = IfSome o (λ x. IsXmlText x.0)

space : IsXmlText (32 ∷ [])
space = subst IsXmlText (encode_1 32 (omega arith)) (xml_one 32 refl)

one_of : (t : Bool) (r s : Option (List ℕ × List ℕ)) → Carries r → Carries s → Carries (cond t r s)
one_of true r s p q = p
one_of false r s p q = q

reference_carries : (o : Option (ℕ × List ℕ)) → IfSome o (λ x. is_char x.0 ≡ true) → Carries (then_read o (λ x. Some (encode_utf8 x.0, x.1)))
reference_carries None h = tt
reference_carries (Some x) h = xml_one x.0 h

character_carries : (o : Option (List ℕ × List ℕ)) → IfSome o (λ x. IsCharacter x.0) → Carries o
character_carries None h = tt
character_carries (Some x) h = character_xml x.0 h

item_carries : (bytes : List ℕ) → Carries (item_at bytes)
item_carries [] = tt
item_carries (b ∷ bytes) =
    one_of (eqb b 38) (then_read (reference_at bytes) (λ x. Some (encode_utf8 x.0, x.1))) (cond (eqb b 13) (Some (32 ∷ [], behind_line_feed bytes)) (cond (eqb b 10 || eqb b 9) (Some (32 ∷ [], bytes)) (character_from Whole (b ∷ bytes))))
    (reference_carries (reference_at bytes) (reference_char bytes))
    (one_of (eqb b 13) (Some (32 ∷ [], behind_line_feed bytes)) (cond (eqb b 10 || eqb b 9) (Some (32 ∷ [], bytes)) (character_from Whole (b ∷ bytes))) space
    (one_of (eqb b 10 || eqb b 9) (Some (32 ∷ [], bytes)) (character_from Whole (b ∷ bytes)) space
    (character_carries (character_from Whole (b ∷ bytes)) (one_character (b ∷ bytes)))))

pub expands_xml : (raw text : List ℕ) → Expands raw text → IsXmlText text
expands_xml raw text nothing = xml_none
expands_xml raw text (item bytes front rest more e behind) = xml_both front more (subst Carries e (item_carries bytes)) (expands_xml rest more behind)

ended_xml : (word : List ℕ) (words : List (List ℕ)) → IsXmlText word → AllByRecursion IsXmlText words → AllByRecursion IsXmlText (ended word words)
ended_xml word words h k = by (eqb (length word) 0)
  where
    by : (t : Bool) → AllByRecursion IsXmlText (cond t words (word ∷ words))
    by true = k
    by false = (h, k)

from_xml : (cs word : List ℕ) → AllByRecursion IsXmlChar cs → IsXmlText word → AllByRecursion IsXmlText (words_from word cs)
from_xml [] word h k = ended_xml word [] k tt
from_xml (c ∷ cs) word h k = by (is_blank c) (from_xml cs [] h.1 xml_none) (from_xml cs (word ++ encode_utf8 c) h.1 (xml_more word c k h.0))
  where
    by : (t : Bool) → AllByRecursion IsXmlText (words_from [] cs) → AllByRecursion IsXmlText (words_from (word ++ encode_utf8 c) cs) → AllByRecursion IsXmlText (cond t (ended word (words_from [] cs)) (words_from (word ++ encode_utf8 c) cs))
    by true rest on = ended_xml word (words_from [] cs) k rest
    by false rest on = on

pub words_xml : (text : List ℕ) → IsXmlText text → AllByRecursion IsXmlText (words_of text)
words_xml text h = from_xml (chars text) [] (chars_xml text h) xml_none
