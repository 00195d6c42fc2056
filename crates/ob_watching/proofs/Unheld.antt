-- An event that rolled off untold isn't held.
use Rattle.std.proofs.Common.{◌≡◌, ℕ, ◌+◌, true, List, [], length, nat_le, ap, arith, ◌⊎◌, inl, inr}
use Rattle.std.specs.List.{filter}
use Rattle.ob_watching.specs.Operations.{Lists}
use Rattle.ob_watching.specs.Rows.{event, UntoldIsNotHeld}
use Rattle.ob_watching.specs.Small.{small, Event}
use Rattle.ob_watching.specs.Watches.{Content}

abbrev missed_in : Content small → ℕ
missed_in (Lists feed missed events) = missed
missed_in _ = 0

abbrev events_in : Content small → List Event
events_in (Lists feed missed events) = events
events_in _ = []

passed : (e : Event) → (e ≡ event 5 1) ⊎ (e ≡ event 6 2) → nat_le 5 e.time ≡ true
passed e (inl is) = ap (λ (e : Event). nat_le 5 e.time) is
passed e (inr is) = ap (λ (e : Event). nat_le 5 e.time) is

pub untold : UntoldIsNotHeld
untold h =
    let missed : 0 ≡ h.missed = ap missed_in h.content in
    let held : 1 ≡ length (filter (λ e. nat_le 5 e.time) h.seen) = ap (λ c. length (events_in c)) h.content in
    let seen : length (filter (λ e. nat_le 5 e.time) h.seen) ≡ length h.seen = h.unfiltered passed in
    let number : length h.seen + h.missed + 0 ≡ 2 = h.number in
    omega (arith, missed, held, seen, number)
