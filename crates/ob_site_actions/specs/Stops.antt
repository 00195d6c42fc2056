-- What a request leaves of a state, and what it is answered.
use Rattle.std.specs.Prelude.{◌≡◌}
use Rattle.ob_object.specs.Object.{Object}
use Rattle.ob_site_rules.specs.Faults.{err}
use Rattle.ob_site_rules.specs.State.{State}
use Rattle.ob_site_state.specs.Kept.{Kept}
use Rattle.ob_site_actions.specs.declared.not_done.NotDone.{NotDone}
use Rattle.ob_site_actions.specs.declared.not_done.NotDone.TheVariants.{Refused, Memory}

-- The state now and the reply are these, and all else is as it was.
pub record IsDone (old new : Kept) (made : State × Object) (reply : Object) : Type 0 where
  pub after : new ≡ record old { now = made.0 }
  pub answer : reply ≡ made.1

-- A refusal leaves all as it was, and the reply is its err; want of memory leaves all but the state now.
abbrev pub Stops : Kept → Kept → State × Object → NotDone → Type 0
Stops old new made (Refused fault) = (new ≡ old) × (made ≡ (old.now, err fault))
Stops old new made Memory = new ≡ record old { now = new.now }
