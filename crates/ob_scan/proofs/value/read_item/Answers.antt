use Rattle.std.proofs.Common.{◌≡◌, ℕ, List, Option, true, sym, subst}
use Rattle.std.specs.Prelude.{IfSome}
use Rattle.ob_scan.specs.Constructs.{is_char}
use Rattle.std.specs.Str.{IsUtf8}
use Rattle.ob_values.specs.XmlText.{IsXmlText}
use Rattle.ob_scan.proofs.XmlTexts.{character_xml}
use Rattle.ob_scan.proofs.Expanding.{IsCharacter, reference_char, one_character, character_utf8}
use Rattle.ob_scan.proofs.value.read_item.Goals as goal

pub returns-in-Some-clause-sound : goal.returns-in-Some-clause-sound
returns-in-Some-clause-sound c = subst (λ (o : Option (ℕ × List ℕ)). IfSome o (λ x. is_char x.0 ≡ true)) (sym c.in-Some.ensures) (reference_char _)

both : (bytes : List ℕ) → IsCharacter bytes → IsUtf8 bytes × IsXmlText bytes
both bytes h = (character_utf8 bytes h, character_xml bytes h)

pub returns-in-Some-read_character-clause-sound : goal.returns-in-Some-read_character-clause-sound
returns-in-Some-read_character-clause-sound c = both c.in-Some-read_character.character.now (subst (λ (o : Option (List ℕ × List ℕ)). IfSome o (λ x. IsCharacter x.0)) (sym c.in-Some-read_character.ensures) (one_character c.args.bytes.now))
