use Rattle.std.proofs.Common.{◌≡◌, ℕ, List, ◌||◌, drop}
use Rattle.std.specs.BTreeSet.{contains_text}
use Rattle.ob_contracts.specs.Adding.{is_among}
use Rattle.ob_contracts.specs.Named.{KeepsKnown}
use Rattle.ob_contracts.proofs.kin.put_words.Given as goal

-- the words that are there, with those that are left
abbrev pub invariant-loop-word : goal.invariant-loop-word
invariant-loop-word l = record {
  kept : KeepsKnown l.initial.kin l.kin;
  same : (asked : List ℕ) → (contains_text l.kin asked || is_among asked (drop l.word-index l.words)) ≡ (contains_text l.initial.kin asked || is_among asked l.words);
}
