use Rattle.std.proofs.Common.{◌≡◌, ℕ, ◌+◌, ◌-◌, ◌≤◌, List, ◌++◌, length, true}
use Rattle.ob_xml.specs.Structure.{IsSound}
use Rattle.ob_xml.specs.Judged.{is_open}
use Rattle.ob_xml.specs.Leading.{Leads}
use Rattle.ob_xml.specs.Views.{state_of}
use Rattle.ob_xml.proofs.judge.run.Given as goal

abbrev pub invariant-turns : goal.invariant-turns
invariant-turns l = record {
  inside : l.at ≤ length l.hand.bytes.now;
  begins : l.from ≤ l.at;
  unfinished : is_open (state_of l.state) ≡ true;
  sound : IsSound (state_of l.state);
  leads : (gone : List ℕ) → l.hand.base ≡ length gone → Leads l.hand.end (gone ++ l.hand.bytes.now) (state_of l.fn.state) (l.hand.base + l.fn.at) l.hand.base
      → Leads l.hand.end (gone ++ l.hand.bytes.now) (state_of l.state) (l.hand.base + l.at) (l.hand.base + l.from);
}

abbrev pub decreases-turns : goal.decreases-turns
decreases-turns l = length l.hand.bytes.now - l.at
