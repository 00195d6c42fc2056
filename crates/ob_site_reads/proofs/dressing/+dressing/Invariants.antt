use Rattle.std.proofs.Common.{◌≡◌, ◌+◌, ◌*◌, ◌++◌, map, take, drop}
use Rattle.ob_object.specs.Object.{parts, count, in_row}
use Rattle.ob_shown_laws.specs.Own.{derived_own}
use Rattle.ob_site_reads.proofs.dressing.+dressing.Given as goal

abbrev pub decreases-dress : goal.decreases-dress
decreases-dress l = 2 * parts l.object.now

abbrev pub decreases-dress_each : goal.decreases-dress_each
decreases-dress_each l = 2 * count (in_row l.objects.now) + 1

abbrev pub invariant-dress_each-loop-object : goal.invariant-dress_each-loop-object
invariant-dress_each-loop-object l =
    l.objects ≡ map (derived_own l.state.plan l.state.now) (take l.object-index l.fn.objects) ++ drop l.object-index l.fn.objects
