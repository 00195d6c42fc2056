use Rattle.std.proofs.Common.{◌≡◌, ◌<◌, ℕ, length, reverse, Some, subst}
use Rattle.std.specs.Prelude.{slice_get}
use Rattle.ob_alarms.specs.Changes.{State}
use Rattle.ob_alarms.specs.Soundness.{EventsShowAlarms}
use Rattle.ob_alarms.specs.declared.alarm.Alarm.{Alarm}
use Rattle.ob_alarms.proofs.EventsSince.{all_known}
use Rattle.ob_alarms.proofs.board.Alarms.events_law.Goals as goal

pub returns : goal.returns
returns c =
    let told = subst (λ (s : State). EventsShowAlarms c.self.inside.list.rules (reverse s.events) s.alarms) c.self.view_is c.self.invariant.told in
    let of_rules = subst (λ (s : State). (p : ℕ) (a : Alarm) → slice_get s.alarms p ≡ Some a → a.rule < length s.rules) c.self.view_is
    (λ p a at. subst (λ (n : ℕ). a.rule < n) c.self.invariant.each_rule (c.rules_law.ensures p a at)) in
    all_known _ c.args.self.now told of_rules
