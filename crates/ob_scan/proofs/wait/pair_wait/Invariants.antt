use Rattle.std.proofs.Common.{◌≡◌, ℕ, List, ◌++◌, drop, Err}
use Rattle.ob_scan.specs.declared.stop.Stop.TheVariants.{Want}
use Rattle.ob_scan.specs.Reading.{behind_pair_from, behind_pair}
use Rattle.ob_scan.proofs.wait.pair_wait.Given as goal

abbrev pub invariant-loop-byte : goal.invariant-loop-byte
invariant-loop-byte l = (tail : List ℕ) → behind_pair_from l.first l.second l.seen l.progress (drop l.byte-index l.bytes ++ tail) ≡ Err Want → behind_pair l.first l.second (l.bytes ++ tail) ≡ Err Want
