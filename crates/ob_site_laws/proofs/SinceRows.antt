-- Worked rows of what is held of a feed through a filter without a bound, and of what the alarms tell.
use Rattle.std.proofs.Common.{◌≡◌, ℕ, ◌+◌, List, [], length, refl, ap, arith}
use Rattle.ob_object.specs.Object.{Object}
use Rattle.ob_watching.specs.Operations.{Lists}
use Rattle.ob_watching.specs.Watches.{Content}
use Rattle.ob_site_rules.specs.declared.plan.Plan.{Plan}
use Rattle.ob_site_laws.specs.SiteLaws.{of_plan}
use Rattle.ob_site_laws.specs.SinceRows.{with_subject, OneIsLacking, NoneWithoutItsAlarm, PassesNone}

abbrev missed_in : (plan : Plan) → Content (of_plan plan) → ℕ
missed_in plan (Lists feed missed events) = missed
missed_in plan _ = 0

abbrev events_in : (plan : Plan) → Content (of_plan plan) → List Object
events_in plan (Lists feed missed events) = events
events_in plan _ = []

pub one_is_lacking : OneIsLacking
one_is_lacking plan s event h =
    let missed : 0 ≡ h.missed = ap (missed_in (with_subject plan)) h.content in
    let held : 1 ≡ length h.held = ap (λ c. length (events_in (with_subject plan) c)) h.content in
    let number : length h.held + h.missed + 0 ≡ 2 = h.number in
    omega (arith, missed, held, number)

pub none_without_its_alarm : NoneWithoutItsAlarm
none_without_its_alarm b h = h.told.1

pub passes_none : PassesNone
passes_none b = refl
