use Rattle.std.proofs.Common.{take}
use Rattle.ob_contracts.specs.Telling.{IsTelling}
use Rattle.ob_contracts.proofs.fewer.telling_words.Given as goal

abbrev pub invariant-loop-word : goal.invariant-loop-word
invariant-loop-word l = IsTelling l.library l.telling (take l.word-index l.word-items) l.seen l.known
