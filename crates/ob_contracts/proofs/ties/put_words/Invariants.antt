use Rattle.std.proofs.Common.{drop}
use Rattle.ob_contracts.specs.Ties.{KeepsPlaces}
use Rattle.ob_contracts.proofs.Tied.{WordsLeft}
use Rattle.ob_contracts.proofs.ties.put_words.Given as goal

-- the places that are there, with the words that are left
abbrev pub invariant-loop-word : goal.invariant-loop-word
invariant-loop-word l = record {
  kept : KeepsPlaces l.initial.row.items l.row.items;
  left : WordsLeft l.library l.row.items l.words (drop l.word-index l.words);
}
