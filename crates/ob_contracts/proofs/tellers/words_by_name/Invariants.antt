use Rattle.std.proofs.Common.{take}
use Rattle.std.specs.BTreeMap.{get_by_text}
use Rattle.ob_contracts.specs.Telling.{named_by}
use Rattle.ob_contracts.specs.Tellers.{AreWords}
use Rattle.ob_contracts.proofs.tellers.words_by_name.Given as goal

abbrev pub invariant-loop-word : goal.invariant-loop-word
invariant-loop-word l = AreWords l.library (get_by_text l.names) (named_by l.library (take l.word-index l.word-items))
