-- The alarm of a number.
use Rattle.std.proofs.Common.{◌≡◌, ℕ, ◌+◌, List, rules}
use Rattle.std.specs.Prelude.{slice_get}
use Rattle.ob_alarms.specs.declared.alarm.Alarm.{Alarm}
use Rattle.ob_alarms.specs.Changes.{alarm_of}

pub alarm_at : (n : ℕ) (alarms : List Alarm) → alarm_of (n + 1) alarms ≡ slice_get alarms n
alarm_at n alarms = search rules
