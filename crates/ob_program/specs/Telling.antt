-- What is told on `errors` of how a run ended.
use Rattle.std.specs.Prelude.{◌≡◌, ◌⊎◌, ℕ, Bool, true, false, if◌then◌else◌, List, [], ◌++◌, codes, Option, Some}
use Rattle.ob_command.specs.Lines.{slip_words}
use Rattle.ob_command.specs.Slips.{Slip, slip}
use Rattle.ob_io.specs.Faults.{Rose}
use Rattle.ob_io.specs.Told.{Gains, IsFront}
use Rattle.ob_program.specs.declared.exit.Exit.{Exit}
use Rattle.ob_program.specs.declared.exit.Exit.TheVariants as exits

-- what is told of `errors`: the bytes that it holds, and its count of faults
pub record ErrorsTold : Type 0 where
  pub held : Option (List ℕ)
  pub faults : ℕ

abbrev pub errors_told : Option (List ℕ) → ℕ → ErrorsTold
errors_told held faults = record { held = held; faults = faults }

-- the line of an exit, but for its words; none where all is well, or a verdict was printed
abbrev pub lead : Exit → List ℕ
lead exits.Ok = []
lead exits.Usage = codes "obix: usage: "
lead exits.Refused = codes "obix: refused: "
lead exits.ReadFault = codes "obix: read fault"
lead exits.WriteFault = codes "obix: write fault\n"
lead exits.Frame = codes "obix: frame "
lead exits.Truncated = codes "obix: truncated\n"
lead exits.LinkFault = codes "obix: link fault\n"
lead exits.Peer = codes "obix: peer: "
lead exits.PortFault = codes "obix: port fault"
lead exits.ClockFault = codes "obix: clock fault\n"
lead exits.Budget = codes "obix: budget\n"
lead exits.Memory = codes "obix: out of memory\n"
lead exits.Illegal = []
lead exits.IllegalRecord = codes "obix: illegal at "
lead exits.RecordFault = codes "obix: record fault"

-- its line goes on with words, and a line feed
abbrev pub has_words : Exit → Bool
has_words exits.Usage = true
has_words exits.Refused = true
has_words exits.ReadFault = true
has_words exits.Frame = true
has_words exits.Peer = true
has_words exits.PortFault = true
has_words exits.IllegalRecord = true
has_words exits.RecordFault = true
has_words _ = false

-- the line of an exit with these words, if it has some
abbrev pub line : Exit → (words : List ℕ) → List ℕ
line exit words = if has_words exit then lead exit ++ (words ++ codes "\n") else lead exit

-- what is told of an exit that has words, where there was no memory for its line: a fault, or that
abbrev pub short : Exit → List ℕ
short exits.ReadFault = codes "obix: read fault\n"
short exits.PortFault = codes "obix: port fault\n"
short exits.RecordFault = codes "obix: record fault\n"
short _ = codes "obix: out of memory\n"

-- The line of an exit was told: a front of it was written, and all of it where no write failed. A line with words may want memory;
-- then a shorter one is told in its place.
pub record Tells (e e' : ErrorsTold) (exit : Exit) (words : List ℕ) : Type 0 where
  pub text : List ℕ
  pub line_is : (text ≡ line exit words) ⊎ ((has_words exit ≡ true) × (text ≡ short exit))
  pub written : List ℕ
  pub gained : Gains e.held written e'.held
  pub front : IsFront written text
  pub whole : ¬ (Rose e.faults e'.faults) → written ≡ text

-- the line of words that are no command was told: it says their first offence
pub record TellsSlip (words : List (List ℕ)) (e e' : ErrorsTold) : Type 0 where
  pub found : Slip
  pub first : slip words ≡ Some found
  pub tells : Tells e e' exits.Usage (slip_words found)
