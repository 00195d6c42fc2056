use Rattle.std.proofs.Common.{◌≡◌, ◌+◌}
use Rattle.ob_object.specs.Object.{count, parts}
use Rattle.ob_contracts.specs.Inherit.{Contracts}
use Rattle.ob_site_rules.specs.declared.plan.Plan.{Plan}
use Rattle.ob_site_rules.specs.State.{State}
use Rattle.ob_tree.proofs.Growing.{first}
use Rattle.ob_step_laws.specs.Defaults.{with_library}
use Rattle.ob_site_settling.specs.Otherwise.{AreOtherwiseBelow, AreShown}
use Rattle.ob_site_state.proofs.Stepping.{numbers_of}
use Rattle.ob_site_settling.proofs.otherwise.+put_otherwise.Given as goal

abbrev pub decreases-put_otherwise : goal.decreases-put_otherwise
decreases-put_otherwise l = parts l.own.now

abbrev pub invariant-loop-place : goal.invariant-loop-place
invariant-loop-place l =
    (l.next ≡ l.number + (count (first l.place l.own.inner) + 1))
    × ((plan : Plan) (s : State) (old : Contracts) → AreShown plan s old l.number l.own l.before l.after
    → AreOtherwiseBelow plan (with_library old s) s.library l.number (numbers_of l.fn.nodes.items) → AreOtherwiseBelow plan (with_library old s) s.library l.next (numbers_of l.nodes.items))
