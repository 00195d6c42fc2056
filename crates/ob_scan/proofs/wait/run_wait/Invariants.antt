use Rattle.std.proofs.Common.{◌≡◌, ℕ, List, ◌++◌, drop, Err}
use Rattle.ob_scan.specs.declared.stop.Stop.TheVariants.{Want}
use Rattle.ob_scan.specs.Reading.{run_from, run}
use Rattle.ob_scan.proofs.wait.run_wait.Given as goal

abbrev pub invariant-loop-byte : goal.invariant-loop-byte
invariant-loop-byte l = (tail : List ℕ) → run_from l.ends l.progress (drop l.byte-index l.bytes ++ tail) ≡ Err Want → run l.ends (l.bytes ++ tail) ≡ Err Want
