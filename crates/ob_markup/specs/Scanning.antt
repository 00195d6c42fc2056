-- What the scanner's definition `scan` says at a place in terms of pieces, and what the grammar over its constructs says in
-- terms of documents.
use Rattle.std.specs.Prelude.{◌≡◌, ◌≢◌, ℕ, ◌+◌, ◌⊎◌, ◌↔◌, Bool, true, false, List, [], ◌∷◌, ◌++◌, length, Option}
use Rattle.ob_scan.specs.declared.piece.Place.{Place}
use Rattle.ob_scan.specs.declared.piece.Place.TheVariants.{InTag}
use Rattle.ob_scan.specs.declared.piece.Why.{Why}
use Rattle.ob_scan.specs.declared.piece.Why.TheVariants.{Markup, Text, Ended}
use Rattle.ob_scan.specs.Constructs.{Construct, Scanned, found, more, refused, scan}
use Rattle.ob_scan.specs.Constructs as scanned
use Rattle.ob_scan.specs.Expansion.{Expands}
use Rattle.ob_object.specs.Object.{Object}
use Rattle.ob_documents.specs.Spelling.{Spells}
use Rattle.ob_xml.specs.declared.refused.Why.{Why as Cause}
use Rattle.ob_xml.specs.Judged.{document, fault, Judged}
use Rattle.ob_markup.specs.Characters.{IsBlank, is_white, print_equals}
use Rattle.ob_markup.specs.References.{IsBadReference, StandsFor}
use Rattle.ob_markup.specs.Markup.{Attribute}
use Rattle.ob_markup.specs.Documents.{IsDocumentOf}
use Rattle.ob_markup.specs.Pieces.{Piece, byte_order_mark, declaration, white_space, comment, instruction, tag_name, attribute, tag_end, empty_end, end_tag, input_end, RefersWell, HasForm, HasNoForm, NeverHasForm, MayHaveForm}

-- what the reader of a document is told of a piece
abbrev pub told : Piece → Construct
told byte_order_mark = scanned.mark
told (declaration d) = scanned.skipped
told (white_space s) = scanned.skipped
told (comment text) = scanned.skipped
told (instruction i) = scanned.skipped
told (tag_name name) = scanned.opening name
told (attribute space a) = scanned.attribute a.name a.value
told (tag_end space) = scanned.tag_end
told (empty_end space) = scanned.empty_end
told (end_tag t) = scanned.closing t.name
told input_end = scanned.ending

-- a piece stands there, its references are references, and this is told of it
pub record IsRead (place : Place) (ended : Bool) (bytes : List ℕ) (c : Construct) (rest : List ℕ) : Type 0 where
  pub piece : Piece
  pub form : HasForm place ended bytes piece rest
  pub refers : RefersWell piece
  pub told_is : c ≡ told piece

-- an attribute stands there whose value has a bad reference, at this place
pub record RefersBadly (place : Place) (bytes : List ℕ) (k : ℕ) : Type 0 where
  pub space : List ℕ
  pub attr : Attribute
  pub rest : List ℕ
  pub form : HasForm place false bytes (attribute space attr) rest
  pub bad : ℕ
  pub is_bad : IsBadReference attr.value bad
  pub place_is : k ≡ length space + (length attr.name + (length (print_equals attr.equals) + (1 + bad)))

-- what stands behind white space begins with none
abbrev pub BeginsDark : List ℕ → Type 0
BeginsDark [] = Unit {0}
BeginsDark (b ∷ bytes) = is_white b ≡ false

-- in a tag: behind its white space
pub record BlamesInTag (bytes : List ℕ) (k : ℕ) (why : Why) : Type 0 where
  pub why_is : why ≡ Markup
  pub white : List ℕ
  pub rest : List ℕ
  pub parts : bytes ≡ white ++ rest
  pub is_white : IsBlank white
  pub is_dark : BeginsDark rest
  pub place_is : k ≡ length white

-- outside tags: the < of a malformed construct, or the first byte of a run that has something other than white space
abbrev pub BlamesOutside : List ℕ → ℕ → Why → Type 0
BlamesOutside [] k why = ⊥
BlamesOutside (b ∷ bytes) k why = (k ≡ 0) × ((b ≡ 60) × (why ≡ Markup) ⊎ (b ≢ 60) × (why ≡ Text))

-- where what can't become a piece is refused, and why
abbrev pub Blames : Place → List ℕ → ℕ → Why → Type 0
Blames InTag bytes k why = BlamesInTag bytes k why
Blames place bytes k why = BlamesOutside bytes k why

-- no piece stands there however the bytes go on, or an attribute whose references aren't all references
abbrev pub IsRefused : Place → List ℕ → ℕ → Why → Type 0
IsRefused place bytes k why = NeverHasForm place bytes × Blames place bytes k why ⊎ (why ≡ Markup) × RefersBadly place bytes k

-- no piece stands there, but one may where the bytes go on
abbrev pub IsUnfinished : Place → Bool → List ℕ → Type 0
IsUnfinished place ended bytes = HasNoForm place ended bytes × MayHaveForm place bytes

-- ---- the laws

abbrev pub FindsPieces : Type 0
FindsPieces = (place : Place) (ended : Bool) (bytes : List ℕ) (c : Construct) (rest : List ℕ)
    → (scan place ended bytes ≡ found c rest) ↔ IsRead place ended bytes c rest

abbrev pub AsksForMore : Type 0
AsksForMore = (place : Place) (bytes : List ℕ) → (scan place false bytes ≡ more) ↔ IsUnfinished place false bytes

abbrev pub RefusesOthers : Type 0
RefusesOthers = (place : Place) (bytes : List ℕ) (k : ℕ) (why : Why)
    → (scan place false bytes ≡ refused k why) ↔ IsRefused place bytes k why

-- where the bytes have ended, what isn't finished is refused at their end
abbrev pub RefusesAtTheEnd : Type 0
RefusesAtTheEnd = (place : Place) (bytes : List ℕ) (k : ℕ) (why : Why)
    → (scan place true bytes ≡ refused k why)
    ↔ (IsRefused place bytes k why ⊎ IsUnfinished place true bytes × (why ≡ Ended) × (k ≡ length bytes))

abbrev pub ValuesStand : Type 0
ValuesStand = (value text : List ℕ) → Expands value text ↔ StandsFor value text

-- the grammar of documents over the scanner's constructs, and the one in productions
abbrev pub DocumentsAgree : Type 0
DocumentsAgree = (bytes : List ℕ) (ns : Option (List ℕ)) (o : Object) → Spells bytes ns o ↔ IsDocumentOf bytes ns o

-- bytes are judged to be a document exactly where they are one of that object
abbrev pub DocumentsJudged : Type 0
DocumentsJudged = (bytes : List ℕ) (ns : Option (List ℕ)) (o : Object)
    → Judged bytes true (document (record { ns = ns; root = o })) ↔ IsDocumentOf bytes ns o

-- and what is refused is none
abbrev pub RefusedIsNone : Type 0
RefusedIsNone = (bytes : List ℕ) (place : ℕ) (why : Cause) → Judged bytes true (fault place why)
    → (ns : Option (List ℕ)) (o : Object) → ¬ (IsDocumentOf bytes ns o)
