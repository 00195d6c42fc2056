-- Words as texts.
use Rattle.std.proofs.Common.{if◌then◌else◌, ◌≡◌, ℕ, true, false, List, [], ◌∷◌, ◌++◌, Some, None, option_map, refl, ap, append_assoc}
use Rattle.std.specs.List.{AllByRecursion, list_all}
use Rattle.std.specs.Str.{IsUtf8, chars}
use Rattle.ob_values.specs.XmlText.{IsXmlChar, IsXmlText}
use Rattle.ob_values.proofs.XmlTextLemmas.{encodes_chars}
use Rattle.ob_values.proofs.Bools.{both_true}
use Rattle.ob_scan.specs.Constructs.{is_char}
use Rattle.ob_scan.proofs.XmlTexts.{xml_char}
use Rattle.ob_command.specs.Texts.{is_text, text_if, texts_if}

all_chars : (cs : List ℕ) → list_all is_char cs ≡ true → AllByRecursion IsXmlChar cs
all_chars [] all = tt
all_chars (c ∷ cs) all = let parts = both_true (is_char c) (list_all is_char cs) all in (xml_char c parts.0, all_chars cs parts.1)

-- a text of such characters
pub is_xml_text : (word : List ℕ) → IsUtf8 word → is_text word ≡ true → IsXmlText word
is_xml_text word utf8 good = (chars word, all_chars (chars word) good, encodes_chars word utf8)

-- a text more, and the texts of the words behind it
pub one_more : (ts : List (List ℕ)) (word : List ℕ) (words : List (List ℕ)) → is_text word ≡ true
    → option_map (λ more. (ts ++ word ∷ []) ++ more) (texts_if words) ≡ option_map (λ more. ts ++ more) (texts_if (word ∷ words))
one_more ts word words good =
    rw good (elim (list_all is_text words) as (λ t. option_map (λ more. (ts ++ word ∷ []) ++ more) (if t then Some words else None) ≡ option_map (λ more. ts ++ more) (if t then Some (word ∷ words) else None)) [
      | true ↦ ap (λ (xs : List (List ℕ)). Some xs) (append_assoc ts (word ∷ []) words)
      | false ↦ refl
    ])

pub text_is : (word text : List ℕ) → Some text ≡ text_if word → (is_text word ≡ true) × (text ≡ word)
text_is word text e =
    elim (is_text word) as (λ t. Some text ≡ (if t then Some word else None) → (t ≡ true) × (text ≡ word)) [
      | true ↦ λ h. (refl, cc)
      | false ↦ λ h. absurd cc
    ] e
