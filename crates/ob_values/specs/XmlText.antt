-- Text that XML can carry.
use Rattle.std.specs.Prelude.{◌≡◌, ℕ, Bool, ◌&&◌, nat_le, nat_lt, ◌⊎◌, List, ◌++◌, length, encode_utf8, Result, Ok, Err, IsUtf8}
use Rattle.std.specs.Int.{IsInRange}
use Rattle.std.specs.List.{AllByRecursion, list_all}
use Rattle.std.specs.Char.{IsScalar}
use Rattle.std.specs.Str.{encode_utf8_all}
use Rattle.ob_values.specs.declared.fault.TextFault.{TextFault}
use Rattle.ob_values.specs.declared.fault.TextFault.TheVariants.{NotUtf8, NotXmlChar, Memory}

-- tab, line feed, carriage return, and every other character that is no control and no surrogate,
-- but for U+FFFE and U+FFFF
abbrev pub IsXmlChar : ℕ → Type 0
IsXmlChar c =
    (c ≡ 9) ⊎ ((c ≡ 10) ⊎ ((c ≡ 13)
    ⊎ (IsInRange 0x20 0xD7FF c ⊎ (IsInRange 0xE000 0xFFFD c ⊎ IsInRange 0x1_0000 0x10_FFFF c))))

-- the bytes are the UTF-8 of XML characters
abbrev pub IsXmlText : List ℕ → Type 0
IsXmlText bytes = (cs : List ℕ) × AllByRecursion IsXmlChar cs × (encode_utf8_all cs ≡ bytes)

-- ASCII from space to ~, as a test that computes
abbrev pub is_printable : List ℕ → Bool
is_printable text = list_all (λ c. nat_le 32 c && nat_lt c 127) text

-- a character that XML can't carry stands at that byte, and only XML characters before it
pub record IsFirstBad (bytes : List ℕ) (at : ℕ) : Type 0 where
  pub front : List ℕ
  pub bad : ℕ
  pub scalar : IsScalar bad
  pub rest : List ℕ
  pub place : at ≡ length front
  pub good_front : IsXmlText front
  pub not_xml : ¬ (IsXmlChar bad)
  pub bytes_are : bytes ≡ front ++ (encode_utf8 bad ++ rest)

-- the text of the bytes, or why they are none
abbrev pub ReadsText : List ℕ → Result (List ℕ) TextFault → Type 0
ReadsText bytes (Ok text) = (text ≡ bytes) × IsXmlText bytes
ReadsText bytes (Err NotUtf8) = ¬ (IsUtf8 bytes)
ReadsText bytes (Err (NotXmlChar at)) = IsUtf8 bytes × IsFirstBad bytes at
ReadsText bytes (Err Memory) = IsXmlText bytes
