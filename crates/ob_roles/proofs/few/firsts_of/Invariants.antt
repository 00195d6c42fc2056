use Rattle.std.proofs.Common.{take}
use Rattle.ob_contracts.specs.Inherit.{Contracts}
use Rattle.ob_roles.specs.Few.{AreFirst}
use Rattle.ob_roles.specs.Kinds.{Tells}
use Rattle.ob_roles.proofs.few.firsts_of.Given as goal

abbrev pub invariant-loop-word : goal.invariant-loop-word
invariant-loop-word l = (lib : Contracts) → Tells l.known lib → AreFirst l.firsts lib (take l.word-index l.words)
