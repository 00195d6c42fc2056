-- What was found or refused before the end of the input is what is found or refused of every longer input.
use Rattle.std.specs.Prelude.{◌≡◌, ℕ, Bool, true, false, List, ◌++◌}
use Rattle.ob_scan.specs.declared.piece.Place.{Place}
use Rattle.ob_scan.specs.Expansion.{Expands}
use Rattle.ob_scan.specs.Constructs.{Construct, opening, attribute, tag_end, empty_end, closing, skipped, ending, mark, Scanned, found, more, refused, scan}

-- s is what stands at the front of bytes that go on by tail
abbrev pub StaysWith : List ℕ → Scanned → Scanned → Type 0
StaysWith tail (found c rest) s = s ≡ found c (rest ++ tail)
StaysWith tail more s = Unit {0}
StaysWith tail (refused k why) s = s ≡ refused k why

abbrev pub IsJudgedOnce : Type 0
IsJudgedOnce = (place : Place) (ended : Bool) (bytes tail : List ℕ) → StaysWith tail (scan place false bytes) (scan place ended (bytes ++ tail))

-- the end of the input is found there alone, and the value of an attribute stands for a text
abbrev pub MayStand : Bool → Construct → Type 0
MayStand ended (opening name) = Unit {0}
MayStand ended (attribute name raw) = (text : List ℕ) × Expands raw text
MayStand ended tag_end = Unit {0}
MayStand ended empty_end = Unit {0}
MayStand ended (closing name) = Unit {0}
MayStand ended skipped = Unit {0}
MayStand ended ending = ended ≡ true
MayStand ended mark = Unit {0}

-- nothing is waited for at the end
abbrev pub WellFound : Bool → Scanned → Type 0
WellFound ended (found c rest) = MayStand ended c
WellFound true more = ⊥
WellFound false more = Unit {0}
WellFound ended (refused k why) = Unit {0}

abbrev pub IsWellFound : Type 0
IsWellFound = (place : Place) (ended : Bool) (bytes : List ℕ) → WellFound ended (scan place ended bytes)
