use Rattle.std.proofs.Common.{◌≡◌, ◌+◌, ◌*◌, ◌++◌, map, take, drop}
use Rattle.ob_object.specs.Object.{parts, count, in_row}
use Rattle.ob_contracts.specs.Settings.{child_in}
use Rattle.ob_contracts.proofs.completing.+completing.Given as goal

abbrev pub decreases-complete : goal.decreases-complete
decreases-complete l = 4 * parts l.object.now + 3

abbrev pub decreases-complete_parts : goal.decreases-complete_parts
decreases-complete_parts l = 4 * parts l.object.now + 2

abbrev pub decreases-complete_children : goal.decreases-complete_children
decreases-complete_children l = 4 * parts l.object.now + 1

abbrev pub decreases-complete_each : goal.decreases-complete_each
decreases-complete_each l = 4 * count (in_row l.objects.now) + 4

abbrev pub invariant-complete_each-loop-object : goal.invariant-complete_each-loop-object
invariant-complete_each-loop-object l =
    l.objects ≡ map (child_in l.setting l.own) (take l.object-index l.fn.objects) ++ drop l.object-index l.fn.objects
