-- What a link tells of the bytes that are read from it.
use Rattle.std.specs.Prelude.{◌≡◌, List, [], ◌++◌, ℕ, take, Option, Result, MatchResult, IfSome}
use Rattle.std.specs.Io.KnownBytes.{Consumes, IsAtEnd}
use Rattle.ob_io.specs.Told.{Gains, Gains-none, Gains-then, Consumes-none, Consumes-then}

-- what is told of bytes that are read: those left, and those taken
pub record Inlet : Type 0 where
  pub left : Option (List ℕ)
  pub taken : Option (List ℕ)

abbrev pub inlet : Option (List ℕ) → Option (List ℕ) → Inlet
inlet left taken = record { left = left; taken = taken }

-- these bytes were taken
abbrev pub Takes : Inlet → Inlet → List ℕ → Type 0
Takes before after bytes = Consumes before.left after.left bytes × Gains before.taken bytes after.taken

-- a read took what it gave, nothing only at the end, and nothing where it failed
abbrev pub ReadTakes : {E : Type 0} → Inlet → Inlet → Result ℕ E → List ℕ → Type 0
ReadTakes before after result buf =
    MatchResult result (λ n. Takes before after (take n buf) × (n ≡ 0 → IsAtEnd after.left)) (λ _. Takes before after [])

pub Takes-none : (u : Inlet) → Takes u u []
Takes-none u = (Consumes-none u.left, Gains-none u.taken)

pub Takes-then : (u v w : Inlet) (a b : List ℕ) → Takes u v a → Takes v w b → Takes u w (a ++ b)
Takes-then u v w a b x y = (Consumes-then u.left v.left w.left a b x.0 y.0, Gains-then u.taken v.taken w.taken a b x.1 y.1)

-- nothing was done with a link yet
pub record IsFresh (taken held : Option (List ℕ)) (reads writes : ℕ) : Type 0 where
  pub taken_none : IfSome taken (λ bytes. bytes ≡ [])
  pub held_none : IfSome held (λ bytes. bytes ≡ [])
  pub reads_none : reads ≡ 0
  pub writes_none : writes ≡ 0
