use Rattle.std.proofs.Common.{◌+◌, ◌*◌, drop}
use Rattle.ob_object.specs.Object.{count, in_row, parts}
use Rattle.ob_documents.specs.Held.{IsRowHeld}
use Rattle.ob_documents.proofs.held.+holding.Given as goal

abbrev pub invariant-row_held-loop-object : goal.invariant-row_held-loop-object
invariant-row_held-loop-object l = IsRowHeld (in_row (drop l.object-index l.objects)) → IsRowHeld (in_row l.objects)

abbrev pub decreases-parts_held : goal.decreases-parts_held
decreases-parts_held l = 2 * parts l.object.now + 1

abbrev pub decreases-row_held : goal.decreases-row_held
decreases-row_held l = 2 * count (in_row l.objects.now) + 2
