use Rattle.std.proofs.Common.{◌≡◌, ◌++◌, ◌-◌, ◌≤◌, take, drop}
use Rattle.ob_encoding.specs.Escaped.{escaped}
use Rattle.ob_encoding.specs.Written.{IsFront}
use Rattle.ob_encoding.proofs.escape.append_escaped.Given as goal

-- what is written, the run that is not, and the rest
abbrev pub invariant-loop-i : goal.invariant-loop-i
invariant-loop-i l = record {
  front : IsFront l.fn.out.items l.out.items;
  run : l.start ≤ l.i;
  whole : (l.out.items ++ take (l.i - l.start) (drop l.start l.text)) ++ escaped (drop l.i l.text) ≡ l.fn.out.items ++ escaped l.text;
}
