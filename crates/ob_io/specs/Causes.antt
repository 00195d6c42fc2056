-- What is told of a call that the outside refused.
use Rattle.std.specs.Prelude.{◌≡◌, ℕ, List, [], codes, Option, IfSome, Result, IsErrOf, string_bytes}
use Rattle.ob_io.specs.declared.cause.Cause.{Cause}
use Rattle.ob_io.specs.declared.cause.Cause.TheVariants as causes
use Rattle.ob_io.specs.declared.cause.RefusedFile.{RefusedFile}
use Rattle.ob_io.specs.declared.traits.FileFault.{FileFault}
use Rattle.ob_io.specs.declared.traits.FileFault.TheVariants.{Failed}

-- the words that are printed for a cause
abbrev pub cause_words : Cause → List ℕ
cause_words causes.Untold = []
cause_words causes.InUse = codes "in use"
cause_words causes.NotAllowed = codes "not allowed"
cause_words causes.NotHere = codes "not this machine's"
cause_words causes.Locked = codes "locked"
cause_words causes.Full = codes "full"
cause_words causes.NoFile = codes "no such file"
cause_words causes.NoFolder = codes "no such folder"
cause_words causes.IsFolder = codes "is a folder"

-- A call that was refused tells its own file, if any; another leaves what was told before.
pub record TellsFile {T : Type 0} (before after : Option RefusedFile) (name : List ℕ) (result : Result T FileFault) : Type 0 where
  pub named : IsErrOf result Failed → IfSome after (λ file. string_bytes file.name ≡ name)
  pub kept : ¬ (IsErrOf result Failed) → after ≡ before
