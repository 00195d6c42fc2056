-- References, and the values of attributes (XML 1.0, sections 2.3, 2.11, 3.3.3, 4.1 and 4.6).
use Rattle.std.specs.Prelude.{◌≡◌, ℕ, ◌<◌, Bool, ◌||◌, ◌==◌, not, List, [], ◌∷◌, ◌++◌, length, codes, encode_utf8, IsTrue}
use Rattle.std.specs.List.{flat_map}
use Rattle.std.specs.Char.{is_ascii_digit, is_ascii_hexdigit}
use Rattle.std.specs.Str.Parse.{digits_value}
use Rattle.ob_values.specs.XmlText.{IsXmlChar, IsXmlText}
use Rattle.ob_markup.specs.Characters.{AllPass}

-- [67] Reference ::= EntityRef | CharRef: a predefined entity (section 4.6), or digits
pub data Reference : Type 0 where
  less_than greater_than ampersand quotation apostrophe : Reference
  decimal : List ℕ → Reference
  hexadecimal : List ℕ → Reference

-- [68] EntityRef ::= '&' Name ';', [66] CharRef ::= '&#' [0-9]+ ';' | '&#x' [0-9a-fA-F]+ ';'
abbrev pub print_reference : Reference → List ℕ
print_reference less_than = codes "&lt;"
print_reference greater_than = codes "&gt;"
print_reference ampersand = codes "&amp;"
print_reference quotation = codes "&quot;"
print_reference apostrophe = codes "&apos;"
print_reference (decimal digits) = codes "&#" ++ (digits ++ codes ";")
print_reference (hexadecimal digits) = codes "&#x" ++ (digits ++ codes ";")

-- the character that it stands for
abbrev pub referred : Reference → ℕ
referred less_than = 60
referred greater_than = 62
referred ampersand = 38
referred quotation = 34
referred apostrophe = 39
referred (decimal digits) = digits_value 10 digits
referred (hexadecimal digits) = digits_value 16 digits

-- one digit or more, of this kind
abbrev pub AreDigits : (ℕ → Bool) → List ℕ → Type 0
AreDigits test digits = (0 < length digits) × AllPass test digits

-- its digits are digits, and what they stand for is a character (section 4.1, Legal Character)
abbrev pub IsReference : Reference → Type 0
IsReference less_than = Unit {0}
IsReference greater_than = Unit {0}
IsReference ampersand = Unit {0}
IsReference quotation = Unit {0}
IsReference apostrophe = Unit {0}
IsReference (decimal digits) = AreDigits is_ascii_digit digits × IsXmlChar (digits_value 10 digits)
IsReference (hexadecimal digits) = AreDigits is_ascii_hexdigit digits × IsXmlChar (digits_value 16 digits)

-- a reference stands at the front
abbrev pub BeginsReference : List ℕ → Type 0
BeginsReference bytes = (r : Reference) × (rest : List ℕ) × IsReference r × (bytes ≡ print_reference r ++ rest)

-- neither this quote nor <
abbrev pub is_value_byte : ℕ → ℕ → Bool
is_value_byte quote b = not (b == quote || b == 60)

-- what may stand between two such quotes, its references apart
pub record IsValue (quote : ℕ) (value : List ℕ) : Type 0 where
  pub characters : IsXmlText value
  pub bytes : AllPass (is_value_byte quote) value

-- an & stands so many bytes behind the front
abbrev pub HasAmpersandAt : List ℕ → ℕ → List ℕ → Type 0
HasAmpersandAt value k rest = (front : List ℕ) × (value ≡ front ++ (38 ∷ rest)) × (length front ≡ k)

-- [10] AttValue: each & begins a reference
abbrev pub HasReferences : List ℕ → Type 0
HasReferences value = (k : ℕ) (rest : List ℕ) → HasAmpersandAt value k rest → BeginsReference (38 ∷ rest)

-- so many bytes behind the front stands the first & that begins no reference
pub record IsBadReference (value : List ℕ) (k : ℕ) : Type 0 where
  pub rest : List ℕ
  pub stands : HasAmpersandAt value k rest
  pub no_reference : ¬ (BeginsReference (38 ∷ rest))
  pub first : (j : ℕ) (more : List ℕ) → j < k → HasAmpersandAt value j more → BeginsReference (38 ∷ more)

-- ---- what a value stands for

-- a part of a value
pub data Item : Type 0 where
  character : ℕ → Item
  tab line_feed carriage_return : Item
  -- CR and LF, one end of line (section 2.11)
  line_end : Item
  reference : Reference → Item

abbrev pub print_item : Item → List ℕ
print_item (character c) = encode_utf8 c
print_item tab = 9 ∷ []
print_item line_feed = 10 ∷ []
print_item carriage_return = 13 ∷ []
print_item line_end = 13 ∷ 10 ∷ []
print_item (reference r) = print_reference r

-- white space is a space, and a reference the character that it stands for (section 3.3.3)
abbrev pub item_text : Item → List ℕ
item_text (character c) = encode_utf8 c
item_text tab = 32 ∷ []
item_text line_feed = 32 ∷ []
item_text carriage_return = 32 ∷ []
item_text line_end = 32 ∷ []
item_text (reference r) = encode_utf8 (referred r)

-- & begins a reference, and tab, LF and CR are white space
abbrev pub is_replaced : ℕ → Bool
is_replaced c = c == 38 || c == 9 || c == 10 || c == 13

abbrev pub IsItem : Item → Type 0
IsItem (character c) = IsXmlChar c × IsTrue (not (is_replaced c))
IsItem tab = Unit {0}
IsItem line_feed = Unit {0}
IsItem carriage_return = Unit {0}
IsItem line_end = Unit {0}
IsItem (reference r) = IsReference r

-- a CR stands alone only where no LF follows it
abbrev pub MayPrecede : Item → List Item → Type 0
MayPrecede carriage_return (line_feed ∷ items) = ⊥
MayPrecede item items = Unit {0}

abbrev pub AreItems : List Item → Type 0
AreItems [] = Unit {0}
AreItems (item ∷ items) = IsItem item × MayPrecede item items × AreItems items

abbrev pub print_items : List Item → List ℕ
print_items items = flat_map print_item items

-- the value, as it is written, stands for the text
pub record StandsFor (value text : List ℕ) : Type 0 where
  pub items : List Item
  pub are_items : AreItems items
  pub printed : value ≡ print_items items
  pub text_is : text ≡ flat_map item_text items
