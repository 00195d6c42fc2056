use Rattle.std.proofs.Common.{◌-◌, length}
use Rattle.ob_journal.specs.Journal.{AreBlocks}
use Rattle.ob_journal.proofs.opening.blocks_len.Given as goal

abbrev pub invariant-loop-n : goal.invariant-loop-n
invariant-loop-n g l = AreBlocks g.S.Shape.is_entry l.bytes l.at

abbrev pub decreases-loop-n : goal.decreases-loop-n
decreases-loop-n g l = length l.bytes - l.at
