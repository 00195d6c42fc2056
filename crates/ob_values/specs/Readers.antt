-- What the readers of truth values, whole numbers and reals answer: each for all bytes.
use Rattle.std.specs.Prelude.{ℕ, Bool, List, Result, ℤ, FitsSigned}
use Rattle.std.specs.Int.{w64}
use Rattle.ob_spelling.specs.White.{trim}
use Rattle.ob_spelling.specs.Reads.{Reads, ReadsWord}
use Rattle.ob_spelling.specs.declared.fault.ValueFault.{ValueFault}
use Rattle.ob_spelling.specs.declared.fault.ValueFault.TheVariants.{NotBool, NotNumber, Range}
use Rattle.ob_values.specs.Truth.{IsTruth}
use Rattle.ob_values.specs.Integer.{IsInteger}
use Rattle.ob_values.specs.ReadsReal.{ReadsReal}

-- the truth value that the bytes spell, white space at their ends left out
abbrev pub ReadsBool : List ℕ → Result Bool ValueFault → Type 0
ReadsBool bytes answer = ReadsWord (IsTruth (trim bytes)) NotBool answer

-- the whole number that a text spells
abbrev pub ReadsInteger : List ℕ → Result ℤ ValueFault → Type 0
ReadsInteger text answer = Reads IsInteger (FitsSigned w64) NotNumber Range text answer

-- and the bytes, with white space at their ends
abbrev pub ReadsInt : List ℕ → Result ℤ ValueFault → Type 0
ReadsInt bytes answer = ReadsInteger (trim bytes) answer

-- the real, in units of 10 ^ -18
abbrev pub ReadsDec : List ℕ → Result ℤ ValueFault → Type 0
ReadsDec bytes answer = ReadsReal (trim bytes) answer
