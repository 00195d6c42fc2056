-- Links that came back, and counts that rise.
use Rattle.std.specs.Prelude.{◌≡◌, ℕ, ◌+◌, ◌-◌, ◌^◌, min, List, Option, Some}
-- what is said of a link that is handed out
pub use Rattle.ob_io.specs.Links.{IsFresh}

-- a link that came back: its counts of faults, the bytes taken from it, written to it and left in it
pub record Visit : Type 0 where
  pub reads : ℕ
  pub writes : ℕ
  pub taken : List ℕ
  pub written : List ℕ
  pub left : List ℕ

-- the visit is what the link tells
pub record IsVisit (visit : Visit) (left taken held : Option (List ℕ)) (reads writes : ℕ) : Type 0 where
  pub reads_are : visit.reads ≡ reads
  pub writes_are : visit.writes ≡ writes
  pub taken_is : taken ≡ Some visit.taken
  pub written_is : held ≡ Some visit.written
  pub left_is : left ≡ Some visit.left

-- a number that goes up by n and stops at the last value of a u64
abbrev pub raised : ℕ → ℕ → ℕ
raised number n = min (number + n) (2 ^ 64 - 1)
