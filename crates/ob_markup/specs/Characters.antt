-- Characters, white space and names (XML 1.0, sections 2.2 and 2.3). A text is its bytes in UTF-8: what is said of a byte
-- below 128 is said of the character that it is, since the bytes of every other character are 128 or more.
use Rattle.std.specs.Prelude.{◌≡◌, ℕ, ◌<◌, ◌⊎◌, Bool, ◌||◌, ◌==◌, not, List, ◌∷◌, ◌++◌, length, IsTrue}
use Rattle.std.specs.List.{AllByRecursion}
use Rattle.ob_values.specs.XmlText.{IsXmlText}

-- a character of [3] S
abbrev pub is_white : ℕ → Bool
is_white b = b == 32 || b == 9 || b == 10 || b == 13

-- each byte passes the test
abbrev pub AllPass : (ℕ → Bool) → List ℕ → Type 0
AllPass test bytes = AllByRecursion (λ b. IsTrue (test b)) bytes

-- S?: white space, or nothing
abbrev pub IsBlank : List ℕ → Type 0
IsBlank s = AllPass is_white s

-- [3] S ::= (#x20 | #x9 | #xD | #xA)+
abbrev pub IsSpace : List ℕ → Type 0
IsSpace s = (0 < length s) × IsBlank s

-- the part stands nowhere in the text
abbrev pub HasNo : List ℕ → List ℕ → Type 0
HasNo part text = (front back : List ℕ) → ¬ (text ≡ front ++ (part ++ back))

-- no white space, and none of = / > < " ' &
abbrev pub is_name_byte : ℕ → Bool
is_name_byte b = not (is_white b || b == 61 || b == 47 || b == 62 || b == 60 || b == 34 || b == 39 || b == 38)

-- no white space, and none of ? < >
abbrev pub is_target_byte : ℕ → Bool
is_target_byte b = not (is_white b || b == 63 || b == 60 || b == 62)

-- one character or more, whose bytes pass the test
pub record IsWord (test : ℕ → Bool) (text : List ℕ) : Type 0 where
  pub some : 0 < length text
  pub characters : IsXmlText text
  pub bytes : AllPass test text

-- [5] Name, wider than the standard's: every character may stand in it but those that end it
abbrev pub IsName : List ℕ → Type 0
IsName name = IsWord is_name_byte name

-- a quotation mark or an apostrophe
abbrev pub IsQuote : ℕ → Type 0
IsQuote b = (b ≡ 34) ⊎ (b ≡ 39)

-- [25] Eq ::= S? '=' S?
pub record Equals : Type 0 where
  pub before : List ℕ
  pub after : List ℕ

abbrev pub print_equals : Equals → List ℕ
print_equals e = e.before ++ (61 ∷ e.after)

pub record IsEquals (e : Equals) : Type 0 where
  pub before : IsBlank e.before
  pub after : IsBlank e.after
