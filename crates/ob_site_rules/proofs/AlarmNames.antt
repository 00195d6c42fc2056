-- Alarms are objects without names.
use Rattle.std.proofs.Common.{◌≡◌, ℕ, true, List, refl}
use Rattle.std.specs.Prelude.{Option, Some, None, is_none, unwrap_or, slice_get}
use Rattle.ob_alarms.specs.declared.alarm.Alarm.{Alarm}
use Rattle.ob_alarms.specs.declared.rule.Rule.{Rule}
use Rattle.ob_alarms.specs.Changes.{State as Board}
use Rattle.ob_alarms.specs.AlarmObjects.{shown_alarm, object_in}
use Rattle.ob_site_rules.specs.Entries.{empty_object}

by_rule : (root : List ℕ) (r : Option Rule) (n : ℕ) (a : Alarm) → is_none (unwrap_or (object_in root r n a) empty_object).head.name ≡ true
by_rule root None n a = refl
by_rule root (Some r) n a = refl

-- what is shown of an alarm
pub by_alarm : (b : Board) (n : ℕ) (a : Option Alarm) → is_none (unwrap_or (shown_alarm b n a) empty_object).head.name ≡ true
by_alarm b n None = refl
by_alarm b n (Some a) = by_rule b.root (slice_get b.rules a.rule) n a
