use Rattle.std.specs.Prelude.{◌≡◌, ℕ, true, List, [], ◌∷◌, Result, Ok, Err, encode_utf8}
use Rattle.std.specs.Str.{IsUtf8}
use Rattle.ob_values.specs.XmlText.{IsXmlText}
use Rattle.ob_scan.specs.declared.value.Item.{Item}
use Rattle.ob_scan.specs.declared.value.Item.TheVariants.{Char, Space, Plain}
use Rattle.ob_scan.specs.declared.value.RawFault.{RawFault}
use Rattle.ob_scan.specs.declared.value.RawFault.TheVariants.{Markup, Memory}
use Rattle.ob_scan.specs.Constructs.{is_char}
use Rattle.ob_scan.specs.Expansion.{Expands, IsBadAt}

-- the bytes that an item stands for
abbrev pub item_text : Item → List ℕ
item_text (Char c) = encode_utf8 c
item_text Space = 32 ∷ []
item_text (Plain bytes) = bytes.now

abbrev pub IsItem : Item → Type 0
IsItem (Char c) = is_char c ≡ true
IsItem Space = Unit {0}
IsItem (Plain bytes) = IsUtf8 bytes.now × IsXmlText bytes.now

-- the text, or the first place that is refused
abbrev pub Expanded : List ℕ → Result (List ℕ) RawFault → Type 0
Expanded raw (Ok text) = Expands raw text
Expanded raw (Err (Markup at)) = IsBadAt raw at
Expanded raw (Err Memory) = Unit {0}
