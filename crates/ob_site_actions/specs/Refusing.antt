-- What an own node refuses, and what is done, told by its own head.
use Rattle.std.specs.Prelude.{◌≡◌, ℕ, Option, Some}
use Rattle.ob_object.specs.Object.{Object}
use Rattle.ob_values.specs.declared.verb.Verb.{Verb}
use Rattle.ob_site_rules.specs.Actions.{act_at}
use Rattle.ob_site_rules.specs.Build.{Path}
use Rattle.ob_site_rules.specs.declared.fault.Fault.{Fault}
use Rattle.ob_site_rules.specs.Faults.{err}
use Rattle.ob_site_rules.specs.declared.resource.Resource.TheVariants.{Node}
use Rattle.ob_site_rules.specs.Places.{place_at}
use Rattle.ob_site_rules.specs.declared.plan.Plan.{Plan}
use Rattle.ob_site_rules.specs.State.{State}
use Rattle.ob_site_state.specs.Kept.{Kept}
use Rattle.ob_site_actions.specs.Stops.{IsDone}
use Rattle.ob_site_actions.specs.declared.not_done.NotDone.{NotDone}
use Rattle.ob_site_actions.specs.declared.not_done.NotDone.TheVariants.{Refused, Memory}

-- a path names a node that refuses with this fault what a verb asks of it with a body
abbrev pub IsRefusedThere : Plan → State → ℕ → Path → Verb → Option Object → Fault → Type 0
IsRefusedThere plan s now p verb body fault =
    (o : Object) × ((place_at plan s p ≡ Some (Node o)) × (act_at plan s now p verb (Node o) body ≡ (s, err fault)))

-- a path names a node, and what a verb asks of it with a body is done
abbrev pub IsDoneThere : Kept → Kept → Path → Verb → Option Object → Object → Type 0
IsDoneThere k n p verb body reply =
    (o : Object) × ((place_at k.plan k.now p ≡ Some (Node o)) × IsDone k n (act_at k.plan k.now k.time p verb (Node o) body) reply)

-- A path names a node that refuses it, and all stays as it is; or want of memory leaves all but the state now.
abbrev pub StopsThere : Kept → Kept → Path → Verb → Option Object → NotDone → Type 0
StopsThere k n p verb body (Refused fault) = (n ≡ k) × IsRefusedThere k.plan k.now k.time p verb body fault
StopsThere k n p verb body Memory = n ≡ record k { now = n.now }
