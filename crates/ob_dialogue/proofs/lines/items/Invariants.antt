use Rattle.std.proofs.Common.{◌≡◌, take}
use Rattle.ob_dialogue.specs.Printing.{items_text}
use Rattle.ob_dialogue.proofs.lines.items.Given as goal

abbrev pub invariant-loop-place : goal.invariant-loop-place
invariant-loop-place l = l.out.items ≡ items_text (take l.place l.mirror.held)
