-- What writing a text of the program's own comes to.
use Rattle.std.specs.Prelude.{◌≡◌, ◌⊎◌, ℕ, List, [], Option, Result, Ok, Err}
use Rattle.ob_io.specs.Faults.{Rose}
use Rattle.ob_io.specs.Told.{Gains, IsFront}
use Rattle.ob_program.specs.Telling.{ErrorsTold, Tells}
use Rattle.ob_program.specs.declared.exit.Exit.{Exit}
use Rattle.ob_program.specs.declared.exit.Exit.TheVariants as exits

-- the exit that a write leads to
abbrev pub exit_of_write : {T E : Type 0} → Result T E → Exit
exit_of_write (Ok x) = exits.Ok
exit_of_write (Err e) = exits.WriteFault

-- A front of the text was written: all of it with status 0. Any other end is a write fault, which has its cause in the count.
pub record TextRan (text : List ℕ) (held held' : Option (List ℕ)) (writes writes' : ℕ) (e e' : ErrorsTold) (exit : Exit) : Type 0 where
  pub written : List ℕ
  pub gained : Gains held written held'
  pub front : IsFront written text
  pub whole : exit ≡ exits.Ok → written ≡ text
  pub ends : (exit ≡ exits.Ok) ⊎ ((exit ≡ exits.WriteFault) × Rose writes writes')
  pub says : Tells e e' exit []
