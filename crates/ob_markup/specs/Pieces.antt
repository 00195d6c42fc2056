-- The pieces of a document's markup, one at a place: whole productions outside tags, and the parts of a tag.
use Rattle.std.specs.Prelude.{◌≡◌, ℕ, Bool, true, false, List, [], ◌∷◌, ◌++◌, codes}
use Rattle.ob_scan.specs.declared.piece.Place.{Place}
use Rattle.ob_scan.specs.declared.piece.Place.TheVariants.{Start, Marked, InTag, After}
use Rattle.ob_markup.specs.Characters.{IsBlank, IsSpace, is_name_byte}
use Rattle.ob_markup.specs.References.{HasReferences}
use Rattle.ob_markup.specs.Markup.{print_comment, IsComment, Instruction, print_instruction, IsInstruction, Declaration, print_declaration, IsDeclaration, IsTagName, Attribute, print_attribute, IsAttribute, EndTag, print_end_tag, IsEndTag}

pub data Piece : Type 0 where
  -- EF BB BF (section 4.3.3)
  byte_order_mark : Piece
  declaration : Declaration → Piece
  -- [3] S
  white_space : List ℕ → Piece
  comment : List ℕ → Piece
  instruction : Instruction → Piece
  -- '<' Name, of [40] STag and [44] EmptyElemTag
  tag_name : List ℕ → Piece
  -- S Attribute
  attribute : List ℕ → Attribute → Piece
  -- S? '>'
  tag_end : List ℕ → Piece
  -- S? '/>'
  empty_end : List ℕ → Piece
  end_tag : EndTag → Piece
  -- the end of the input, behind the one element
  input_end : Piece

abbrev pub print_piece : Piece → List ℕ
print_piece byte_order_mark = 0xEF ∷ 0xBB ∷ 0xBF ∷ []
print_piece (declaration d) = print_declaration d
print_piece (white_space s) = s
print_piece (comment text) = print_comment text
print_piece (instruction i) = print_instruction i
print_piece (tag_name name) = codes "<" ++ name
print_piece (attribute space a) = space ++ print_attribute a
print_piece (tag_end space) = space ++ codes ">"
print_piece (empty_end space) = space ++ codes "/>"
print_piece (end_tag t) = print_end_tag t
print_piece input_end = []

-- in form: the references in the value of an attribute apart
abbrev pub IsPiece : Piece → Type 0
IsPiece byte_order_mark = Unit {0}
IsPiece (declaration d) = IsDeclaration d
IsPiece (white_space s) = IsSpace s
IsPiece (comment text) = IsComment text
IsPiece (instruction i) = IsInstruction i
IsPiece (tag_name name) = IsTagName name
IsPiece (attribute space a) = IsSpace space × IsAttribute a
IsPiece (tag_end space) = IsBlank space
IsPiece (empty_end space) = IsBlank space
IsPiece (end_tag t) = IsEndTag t
IsPiece input_end = Unit {0}

-- its references are references
abbrev pub RefersWell : Piece → Type 0
RefersWell (attribute space a) = HasReferences a.value
RefersWell p = Unit {0}

-- where each stands: EF BB BF at the very start, the declaration there or behind EF BB BF, the parts of a tag in it
abbrev pub StandsAt : Place → Piece → Type 0
StandsAt Start byte_order_mark = Unit {0}
StandsAt place byte_order_mark = ⊥
StandsAt Start (declaration d) = Unit {0}
StandsAt Marked (declaration d) = Unit {0}
StandsAt place (declaration d) = ⊥
StandsAt InTag (attribute space a) = Unit {0}
StandsAt place (attribute space a) = ⊥
StandsAt InTag (tag_end space) = Unit {0}
StandsAt place (tag_end space) = ⊥
StandsAt InTag (empty_end space) = Unit {0}
StandsAt place (empty_end space) = ⊥
StandsAt After input_end = Unit {0}
StandsAt place input_end = ⊥
StandsAt InTag p = ⊥
StandsAt place p = Unit {0}

-- a byte that ends a name
abbrev pub EndsName : List ℕ → Type 0
EndsName [] = ⊥
EndsName (b ∷ bytes) = is_name_byte b ≡ false

-- a < ends white space between tags, or the end of the input, where that is known
abbrev pub EndsSpace : Bool → List ℕ → Type 0
EndsSpace ended [] = ended ≡ true
EndsSpace ended (b ∷ bytes) = b ≡ 60

abbrev pub IsEnd : Bool → List ℕ → Type 0
IsEnd ended [] = ended ≡ true
IsEnd ended (b ∷ bytes) = ⊥

-- a name and white space are taken whole
abbrev pub MayFollow : Bool → Piece → List ℕ → Type 0
MayFollow ended (tag_name name) rest = EndsName rest
MayFollow ended (white_space s) rest = EndsSpace ended rest
MayFollow ended input_end rest = IsEnd ended rest
MayFollow ended p rest = Unit {0}

-- at the place the bytes are this piece and then the rest; nothing follows the bytes where they have ended
pub record HasForm (place : Place) (ended : Bool) (bytes : List ℕ) (p : Piece) (rest : List ℕ) : Type 0 where
  pub stands : StandsAt place p
  pub form : IsPiece p
  pub printed : bytes ≡ print_piece p ++ rest
  pub follows : MayFollow ended p rest

-- bytes that have the form of no piece
abbrev pub HasNoForm : Place → Bool → List ℕ → Type 0
HasNoForm place ended bytes = (p : Piece) (rest : List ℕ) → ¬ (HasForm place ended bytes p rest)

-- however they go on, they have none
abbrev pub NeverHasForm : Place → List ℕ → Type 0
NeverHasForm place bytes = (more : List ℕ) → HasNoForm place false (bytes ++ more)

-- they can go on so that they have one
abbrev pub MayHaveForm : Place → List ℕ → Type 0
MayHaveForm place bytes = (more : List ℕ) × (p : Piece) × (rest : List ℕ) × HasForm place false (bytes ++ more) p rest
