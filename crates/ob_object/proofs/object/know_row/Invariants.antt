use Rattle.std.proofs.Common.{take}
use Rattle.ob_object.specs.Object.{in_row}
use Rattle.ob_object.specs.WellFormed.{RowIsWellFormed}
use Rattle.ob_object.proofs.object.know_row.Given as goal

abbrev pub invariant-loop-object : goal.invariant-loop-object
invariant-loop-object l = RowIsWellFormed (in_row (take l.object-index l.objects))
