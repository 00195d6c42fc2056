use Rattle.std.proofs.Common.{◌-◌, ◌≤◌, length}
use Rattle.ob_history.specs.Records.{AreBefore, AreNotBefore}
use Rattle.ob_history.proofs.slices.count_before.Given as goal

-- all in front of the low place are before the start, and none from the high one on
abbrev pub invariant-loop-low : goal.invariant-loop-low
invariant-loop-low l = record {
  ordered : l.low ≤ l.high;
  within : l.high ≤ length l.records;
  before : AreBefore l.start l.records l.low;
  behind : AreNotBefore l.start l.records l.high;
}

abbrev pub decreases-loop-low : goal.decreases-loop-low
decreases-loop-low l = l.high - l.low
