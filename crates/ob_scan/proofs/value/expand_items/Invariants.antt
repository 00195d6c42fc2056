use Rattle.std.proofs.Common.{ℕ, ◌+◌, ◌-◌, ◌≤◌, List, ◌++◌, length}
use Rattle.std.specs.Prelude.{string_bytes}
use Rattle.ob_values.specs.XmlText.{IsXmlText}
use Rattle.ob_scan.specs.Expansion.{Expands, IsBadAt}
use Rattle.ob_scan.proofs.value.expand_items.Given as goal

abbrev pub invariant-loop-rest : goal.invariant-loop-rest
invariant-loop-rest l = record {
  xml : IsXmlText (string_bytes l.out);
  short : length l.rest ≤ length l.raw;
  text : (more : List ℕ) → Expands l.rest more → Expands l.raw (string_bytes l.out ++ more);
  bad : (k : ℕ) → IsBadAt l.rest k → IsBadAt l.raw ((length l.raw - length l.rest) + k);
}

abbrev pub decreases-loop-rest : goal.decreases-loop-rest
decreases-loop-rest l = length l.rest
