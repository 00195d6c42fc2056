-- A Put to a node, told by what is asked of it; and that it is done, or stops.
use Rattle.std.specs.Prelude.{◌≡◌, Option, Some, None}
use Rattle.std.specs.Option.{option_or}
use Rattle.ob_object.specs.declared.head.Head.{Head}
use Rattle.ob_object.specs.Object.{Object}
use Rattle.ob_site_rules.specs.Build.{Path}
use Rattle.ob_site_rules.specs.declared.fault.Fault.{Fault}
use Rattle.ob_site_rules.specs.declared.fault.Fault.TheVariants.{OtherShape}
use Rattle.ob_site_rules.specs.Shown.{shown}
use Rattle.ob_site_rules.specs.State.{State}
use Rattle.ob_site_rules.specs.Writes.{given_by, put, showing, target_fault, value_fault, written}
use Rattle.ob_site_state.specs.Kept.{Kept}
use Rattle.ob_site_actions.specs.Stops.{IsDone}
use Rattle.ob_site_actions.specs.Targets.{IsRefused}
use Rattle.ob_site_actions.specs.declared.not_done.NotDone.{NotDone}
use Rattle.ob_site_actions.specs.declared.not_done.NotDone.TheVariants.{Refused, Memory}

-- what is wrong with the value of a head for a node of which `o` is asked
abbrev pub head_faults : Kept → Path → Object → Head → Option Fault
head_faults k p o new = value_fault k.plan k.now k.time p o.head new

-- what its write makes, and the reply; `d` is what is answered if the node isn't shown then
abbrev pub head_makes : Kept → Path → Object → Head → Object → State × Object
head_makes k p o new d = showing k.plan p d (written k.plan k.time p o new.slot k.now)

-- the same of a Put with a body, if there is one
abbrev pub put_faults : Kept → Path → Object → Option Object → Option Fault
put_faults k p o None = option_or (target_fault o.head) (Some OtherShape)
put_faults k p o (Some body) = option_or (target_fault o.head) (head_faults k p o (given_by k.now body))

-- what a Put makes, and the reply, in the same way
abbrev pub put_makes : Kept → Path → Object → Option Object → Object → State × Object
put_makes k p o None d = (k.now, d)
put_makes k p o (Some body) d = head_makes k p o (given_by k.now body) d

-- no fault was found, and this is made, whatever would be answered if the node weren't shown
abbrev pub DoneBy : Kept → Kept → Option Fault → (Object → State × Object) → Object → Type 0
DoneBy k n fault made reply = (fault ≡ None) × ((d : Object) → IsDone k n (made d) reply)

-- a fault was found, and all stays as it is; or want of memory leaves all but the state now
abbrev pub StopsBy : Kept → Kept → Option Fault → NotDone → Type 0
StopsBy k n fault (Refused found) = (n ≡ k) × (fault ≡ Some found)
StopsBy k n fault Memory = n ≡ record k { now = n.now }

-- something is shown at a path, and a Put to it is done
abbrev pub IsPut : Kept → Kept → Path → Option Object → Object → Type 0
IsPut k n p body reply = (x : Object) × ((shown k.plan k.now p ≡ Some x) × IsDone k n (put k.plan k.now k.time p x body) reply)

-- Something is shown at a path, and a Put to it is refused, and all stays as it is; or want of memory leaves all but the state now.
abbrev pub StopsPut : Kept → Kept → Path → Option Object → NotDone → Type 0
StopsPut k n p body (Refused fault) = (n ≡ k) × IsRefused k.plan k.now p (λ x. put k.plan k.now k.time p x body) fault
StopsPut k n p body Memory = n ≡ record k { now = n.now }
