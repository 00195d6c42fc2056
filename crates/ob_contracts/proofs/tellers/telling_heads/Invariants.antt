use Rattle.std.proofs.Common.{take}
use Rattle.ob_contracts.specs.Found.{lent}
use Rattle.ob_contracts.specs.Tellers.{IsHeadTelling}
use Rattle.ob_contracts.proofs.tellers.telling_heads.Given as goal

abbrev pub invariant-loop-word : goal.invariant-loop-word
invariant-loop-word l = IsHeadTelling l.library l.telling (take l.word-index l.word-items) (lent l.heads.items)
