use Rattle.std.proofs.Common.{◌-◌, ◌↔◌, drop}
use Rattle.ob_object.specs.Object.{in_row}
use Rattle.ob_documents.specs.Held.{IsShallow}
use Rattle.ob_record_journal.proofs.closed.+are_shallow.Given as goal

abbrev pub decreases-are_shallow : goal.decreases-are_shallow
decreases-are_shallow l = 32 - l.level

abbrev pub invariant-loop-object : goal.invariant-loop-object
invariant-loop-object l = IsShallow l.level (in_row (drop l.object-index l.objects)) ↔ IsShallow l.level (in_row l.objects)
