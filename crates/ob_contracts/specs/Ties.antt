-- Which contracts an own object names, by their places, and which have to be made anew where one of them is.
use Rattle.std.specs.Prelude.{◌≡◌, ℕ, ◌+◌, ◌<◌, Bool, true, false, not, List, [], ◌∷◌, ◌++◌, Option, Some, None, nat_eq, length, get_or, slice_get}
use Rattle.std.specs.List.{list_any}
use Rattle.ob_object.specs.Object.{Object}
use Rattle.ob_contracts.specs.Adding.{names_word}
use Rattle.ob_contracts.specs.Index.{place_of}
use Rattle.ob_contracts.specs.Inherit.{Contracts}

abbrev pub has_place : ℕ → List ℕ → Bool
has_place i row = list_any (nat_eq i) row

-- what was among places is among them after
abbrev pub KeepsPlaces : List ℕ → List ℕ → Type 0
KeepsPlaces old new = (i : ℕ) → has_place i old ≡ true → has_place i new ≡ true

-- places have that of the contract of each word for which a test holds
abbrev pub HasPlaces : Contracts → List ℕ → (List ℕ → Bool) → Type 0
HasPlaces lib row names = (w : List ℕ) → names w ≡ true → (i : ℕ) → place_of w lib ≡ Some i → has_place i row ≡ true

-- one row more, of what an object names
pub record HasOneMore (lib : Contracts) (o : Object) (old new : List (List ℕ)) : Type 0 where
  pub row : List ℕ
  pub last : new ≡ old ++ row ∷ []
  pub has : HasPlaces lib row (λ w. names_word w o)

-- whether a place is marked
abbrev pub is_marked : ℕ → List Bool → Bool
is_marked i marks = get_or marks i false

-- The contracts that have to be made anew, of those from a first one on, of which each names those that its row has: those that are
-- written, and each that names an earlier one which has to.
pub record AreMarked (first : ℕ) (written : List Bool) (rows : List (List ℕ)) (marks : List Bool) : Type 0 where
  pub len : length marks ≡ first + length rows
  pub before : (i : ℕ) → i < first → is_marked i marks ≡ false
  pub itself : (j : ℕ) → j < length rows → is_marked j written ≡ true → is_marked (first + j) marks ≡ true
  pub closed : (j : ℕ) (row : List ℕ) → slice_get rows j ≡ Some row → is_marked (first + j) marks ≡ false → (i : ℕ) → has_place i row ≡ true → i < first + j → is_marked i marks ≡ false

-- whether a place is marked, if there is one
abbrev pub is_marked_at : Option ℕ → List Bool → Bool
is_marked_at None marks = false
is_marked_at (Some i) marks = is_marked i marks

-- a word whose contract, if it has one, isn't marked
abbrev pub is_unmarked : Contracts → List Bool → List ℕ → Bool
is_unmarked lib marks w = not (is_marked_at (place_of w lib) marks)

-- rows of what own objects name
abbrev pub AreTied : Contracts → List (List ℕ) → Contracts → Type 0
AreTied lib rows own = (length rows ≡ length own)
    × ((j : ℕ) (row : List ℕ) (c : List ℕ × Object) → slice_get rows j ≡ Some row → slice_get own j ≡ Some c → HasPlaces lib row (λ w. names_word w c.1))
