-- Comments, instructions, the declaration and the parts of tags (XML 1.0, sections 2.5, 2.6, 2.8, 2.9, 3.1 and 4.3.3). Each
-- form is a tree, a printer from the tree to its bytes, and a fact that says which trees are valid. A number in brackets is
-- that of the standard's production.
use Rattle.std.specs.Prelude.{◌≡◌, ◌≢◌, ℕ, true, ◌⊎◌, List, [], ◌∷◌, ◌++◌, Option, Some, None, codes}
use Rattle.std.specs.Str.{str_to_ascii_lowercase}
use Rattle.ob_values.specs.XmlText.{IsXmlText}
use Rattle.ob_markup.specs.Characters.{is_white, IsBlank, IsSpace, HasNo, is_target_byte, IsWord, IsName, IsQuote, Equals, print_equals, IsEquals}
use Rattle.ob_markup.specs.References.{IsValue}

-- ---- comments and instructions

-- [15] Comment ::= '<!--' ((Char - '-') | ('-' (Char - '-')))* '-->'
abbrev pub print_comment : List ℕ → List ℕ
print_comment text = codes "<!--" ++ (text ++ codes "-->")

-- characters with no -- among them, nor begun at their end
pub record IsComment (text : List ℕ) : Type 0 where
  pub characters : IsXmlText text
  pub no_dashes : HasNo (codes "--") (text ++ codes "-")

-- [16] PI ::= '<?' PITarget (S (Char* - (Char* '?>' Char*)))? '?>'
pub record Instruction : Type 0 where
  pub target : List ℕ
  -- S and what follows it, or nothing
  pub content : List ℕ

abbrev pub print_instruction : Instruction → List ℕ
print_instruction i = codes "<?" ++ (i.target ++ (i.content ++ codes "?>"))

-- nothing, or white space first
abbrev pub BeginsWhite : List ℕ → Type 0
BeginsWhite [] = Unit {0}
BeginsWhite (b ∷ bytes) = is_white b ≡ true

-- [17] PITarget ::= Name - (('X' | 'x') ('M' | 'm') ('L' | 'l')), with the names of the profile
pub record IsInstruction (i : Instruction) : Type 0 where
  pub target : IsWord is_target_byte i.target
  pub not_xml : str_to_ascii_lowercase i.target ≢ codes "xml"
  pub apart : BeginsWhite i.content
  pub characters : IsXmlText i.content
  pub no_end : HasNo (codes "?>") i.content

-- ---- the declaration

-- S, a name, Eq, and a value between quotes
pub record Setting : Type 0 where
  pub space : List ℕ
  pub equals : Equals
  pub quote : ℕ
  pub value : List ℕ

abbrev pub print_setting : List ℕ → Setting → List ℕ
print_setting name s = s.space ++ (name ++ (print_equals s.equals ++ (s.quote ∷ (s.value ++ (s.quote ∷ [])))))

-- its value is one of these
pub record IsSetting (IsAllowed : List ℕ → Type 0) (s : Setting) : Type 0 where
  pub space : IsSpace s.space
  pub equals : IsEquals s.equals
  pub quote : IsQuote s.quote
  pub value : IsAllowed s.value

-- [26] VersionNum, of version 1.0 alone
abbrev pub IsVersion : List ℕ → Type 0
IsVersion value = value ≡ codes "1.0"

-- [81] EncName, of the two encodings that the profile reads, in any case
abbrev pub IsEncoding : List ℕ → Type 0
IsEncoding value = (str_to_ascii_lowercase value ≡ codes "utf-8") ⊎ (str_to_ascii_lowercase value ≡ codes "us-ascii")

-- [32] SDDecl
abbrev pub IsStandalone : List ℕ → Type 0
IsStandalone value = (value ≡ codes "yes") ⊎ (value ≡ codes "no")

-- [23] XMLDecl ::= '<?xml' VersionInfo EncodingDecl? SDDecl? S? '?>'
pub record Declaration : Type 0 where
  pub version : Setting
  pub encoding : Option Setting
  pub standalone : Option Setting
  pub space : List ℕ

abbrev pub print_optional : List ℕ → Option Setting → List ℕ
print_optional name None = []
print_optional name (Some s) = print_setting name s

abbrev pub print_declaration : Declaration → List ℕ
print_declaration d =
    codes "<?xml" ++ (print_setting (codes "version") d.version ++ (print_optional (codes "encoding") d.encoding
    ++ (print_optional (codes "standalone") d.standalone ++ (d.space ++ codes "?>"))))

abbrev pub IsOptional : (List ℕ → Type 0) → Option Setting → Type 0
IsOptional IsAllowed None = Unit {0}
IsOptional IsAllowed (Some s) = IsSetting IsAllowed s

pub record IsDeclaration (d : Declaration) : Type 0 where
  -- [24] VersionInfo ::= S 'version' Eq ("'" VersionNum "'" | '"' VersionNum '"')
  pub version : IsSetting IsVersion d.version
  -- [80] EncodingDecl ::= S 'encoding' Eq ('"' EncName '"' | "'" EncName "'")
  pub encoding : IsOptional IsEncoding d.encoding
  pub standalone : IsOptional IsStandalone d.standalone
  pub space : IsBlank d.space

-- ---- parts of tags

-- a name that begins neither a comment nor an instruction
abbrev pub BeginsTag : List ℕ → Type 0
BeginsTag [] = ⊥
BeginsTag (b ∷ bytes) = (b ≢ 33) × (b ≢ 63)

-- the name of a start tag or an empty tag
pub record IsTagName (name : List ℕ) : Type 0 where
  pub form : IsName name
  pub begins : BeginsTag name

-- [41] Attribute ::= Name Eq AttValue
pub record Attribute : Type 0 where
  pub name : List ℕ
  pub equals : Equals
  pub quote : ℕ
  pub value : List ℕ

abbrev pub print_attribute : Attribute → List ℕ
print_attribute a = a.name ++ (print_equals a.equals ++ (a.quote ∷ (a.value ++ (a.quote ∷ []))))

-- in form: the references in its value apart
pub record IsAttribute (a : Attribute) : Type 0 where
  pub name : IsName a.name
  pub equals : IsEquals a.equals
  pub quote : IsQuote a.quote
  pub value : IsValue a.quote a.value

-- [42] ETag ::= '</' Name S? '>'
pub record EndTag : Type 0 where
  pub name : List ℕ
  pub space : List ℕ

abbrev pub print_end_tag : EndTag → List ℕ
print_end_tag t = codes "</" ++ (t.name ++ (t.space ++ codes ">"))

pub record IsEndTag (t : EndTag) : Type 0 where
  pub name : IsName t.name
  pub space : IsBlank t.space
