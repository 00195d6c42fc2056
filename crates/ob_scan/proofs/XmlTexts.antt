-- Texts of XML characters.
use Rattle.std.proofs.Common.{◌≡◌, ℕ, ◌≤◌, true, ◌&&◌, ◌||◌, eqb, List, [], ◌∷◌, ◌++◌, refl, sym, ap, subst, ◌∙◌, ◌⊎◌, inl, inr, arith}
use Rattle.std.specs.Char.{encode_utf8}
use Rattle.std.specs.Str.{IsUtf8, encode_utf8_all}
use Rattle.std.proofs.lemmas.Str.{encodes-append}
use Rattle.std.proofs.lemmas.List.{append-nil}
use Rattle.std.proofs.lemmas.Bool.{eqb-true}
use Rattle.ob_values.specs.XmlText.{IsXmlChar, IsXmlText}
use Rattle.ob_values.proofs.Lists.{all_both}
use Rattle.ob_values.proofs.Bools.{or_parts}
use Rattle.ob_scan.specs.Characters.{within}
use Rattle.ob_scan.specs.Constructs.{is_char}
use Rattle.ob_scan.specs.declared.value.Item.{Item}
use Rattle.ob_scan.specs.declared.value.Item.TheVariants.{Char, Space, Plain}
use Rattle.ob_scan.specs.Items.{item_text, IsItem}
use Rattle.ob_scan.proofs.Expanding.{range, IsCharacter}

pub xml_char : (c : ℕ) → is_char c ≡ true → IsXmlChar c
xml_char c e = by_last (or_parts _ _ e)
  where
    first : (eqb c 9 ≡ true) ⊎ (eqb c 10 ≡ true) → IsXmlChar c
    first (inl h) = inl (eqb-true c 9 h)
    first (inr h) = inr (inl (eqb-true c 10 h))

    second : ((eqb c 9 || eqb c 10) ≡ true) ⊎ (eqb c 13 ≡ true) → IsXmlChar c
    second (inl h) = first (or_parts _ _ h)
    second (inr h) = inr (inr (inl (eqb-true c 13 h)))

    third : ((eqb c 9 || eqb c 10 || eqb c 13) ≡ true) ⊎ (within 0x20 0xD7FF c ≡ true) → IsXmlChar c
    third (inl h) = second (or_parts _ _ h)
    third (inr h) = inr (inr (inr (inl (range 0x20 0xD7FF c h))))

    fourth : ((eqb c 9 || eqb c 10 || eqb c 13 || within 0x20 0xD7FF c) ≡ true) ⊎ (within 0xE000 0xFFFD c ≡ true) → IsXmlChar c
    fourth (inl h) = third (or_parts _ _ h)
    fourth (inr h) = inr (inr (inr (inr (inl (range 0xE000 0xFFFD c h)))))

    by_last : ((eqb c 9 || eqb c 10 || eqb c 13 || within 0x20 0xD7FF c || within 0xE000 0xFFFD c) ≡ true) ⊎ (within 0x10000 0x10FFFF c ≡ true) → IsXmlChar c
    by_last (inl h) = fourth (or_parts _ _ h)
    by_last (inr h) = inr (inr (inr (inr (inr (range 0x10000 0x10FFFF c h)))))

pub xml_none : IsXmlText []
xml_none = ([], tt, refl)

pub xml_both : (bytes more : List ℕ) → IsXmlText bytes → IsXmlText more → IsXmlText (bytes ++ more)
xml_both bytes more h k =
    (h.0 ++ k.0, all_both IsXmlChar h.0 k.0 h.1 k.1, encodes-append h.0 k.0 ∙ ap (λ (xs : List ℕ). xs ++ encode_utf8_all k.0) h.2 ∙ ap (λ (xs : List ℕ). bytes ++ xs) k.2)

pub xml_one : (c : ℕ) → is_char c ≡ true → IsXmlText (encode_utf8 c)
xml_one c e = (c ∷ [], (xml_char c e, tt), append-nil (encode_utf8 c))

pub character_xml : (bytes : List ℕ) → IsCharacter bytes → IsXmlText bytes
character_xml bytes c = subst IsXmlText c.2 (xml_one c.0 c.1)

space_utf8 : encode_utf8_all (32 ∷ []) ≡ 32 ∷ []
unfolding encode_utf8
space_utf8 = refl

xml_space : IsXmlText (32 ∷ [])
xml_space = (32 ∷ [], (xml_char 32 refl, tt), space_utf8)

pub item_xml : (item : Item) → IsItem item → IsXmlText (item_text item)
item_xml (Char c) h = xml_one c h
item_xml Space h = xml_space
item_xml (Plain bytes) h = h.1
