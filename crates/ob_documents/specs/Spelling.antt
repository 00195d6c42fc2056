-- What bytes spell which document.
use Rattle.std.specs.Prelude.{◌≡◌, ℕ, ◌≤◌, true, List, [], ◌∷◌, length, Option}
use Rattle.ob_scan.specs.declared.piece.Place.{Place}
use Rattle.ob_scan.specs.declared.piece.Place.TheVariants.{Start, Marked, Between, InTag}
use Rattle.ob_scan.specs.Constructs.{Construct, opening, attribute, tag_end, empty_end, closing, skipped, ending, mark, found, scan}
use Rattle.ob_object.specs.Object.{Object}
use Rattle.ob_documents.specs.Grammar.{IsDocument}

-- where the construct behind this one stands
abbrev pub place_behind : Construct → Place
place_behind (opening name) = InTag
place_behind (attribute name raw) = InTag
place_behind tag_end = Between
place_behind empty_end = Between
place_behind (closing name) = Between
place_behind skipped = Between
place_behind ending = Between
place_behind mark = Marked

-- the bytes are the texts of these constructs, one after another
pub data Cuts : Place → List ℕ → List Construct → Type 0 where
  none : (place : Place) → Cuts place [] []
  some : (place : Place) (bytes rest : List ℕ) (c : Construct) (cs : List Construct) → scan place true bytes ≡ found c rest → Cuts (place_behind c) rest cs → Cuts place bytes (c ∷ cs)

-- the bytes are a document of at most 16 MiB
pub record Spells (bytes : List ℕ) (ns : Option (List ℕ)) (o : Object) : Type 0 where
  pub small : length bytes ≤ 16_777_216
  pub constructs : List Construct
  pub cut : Cuts Start bytes constructs
  pub is_document : IsDocument ns o constructs
