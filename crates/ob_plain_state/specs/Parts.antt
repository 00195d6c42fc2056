-- The computed paths of one point, of one history and of one alarm.
use Rattle.std.specs.Prelude.{ℕ, cond, codes, List, [], ◌∷◌, Option, Some, None, slice_get}
use Rattle.ob_alarms.specs.AlarmObjects.{alarm_path}
use Rattle.ob_alarms.specs.States.{needs_ack}
use Rattle.ob_alarms.specs.declared.alarm.Alarm.{Alarm}
use Rattle.ob_alarms.specs.declared.rule.Rule.{Rule}
use Rattle.ob_site_rules.specs.Build.{Path}
use Rattle.ob_site_rules.specs.declared.plan.Plan.{Plan}
use Rattle.ob_site_rules.specs.Paths.{below, ack_path}
use Rattle.ob_site_rules.specs.declared.resource.Resource.{Resource}
use Rattle.ob_site_rules.specs.declared.resource.Resource.TheVariants.{AlarmAt, AckOf, WritePointOf, QueryOf, FeedOf}

-- what is computed below a writable point
abbrev pub point_parts : Path → List (Path × Resource)
point_parts p = (below p (codes "writePoint"), WritePointOf p) ∷ []

-- what is computed below a history
abbrev pub history_parts : Path → List (Path × Resource)
history_parts h = (below h (codes "query"), QueryOf h) ∷ (below h (codes "feed"), FeedOf h) ∷ []

-- what is computed of the alarm of a number
abbrev pub alarm_parts : Plan → List Rule → ℕ → Alarm → List (Path × Resource)
alarm_parts plan rules n a =
    (alarm_path plan.root n, AlarmAt n) ∷ cond (needs_ack (slice_get rules a.rule)) ((ack_path plan n, AckOf n) ∷ []) []

-- what is computed of the alarm of a number, if there is one
abbrev pub parts_of_alarm : Plan → List Rule → ℕ → Option Alarm → List (Path × Resource)
parts_of_alarm plan rules n None = []
parts_of_alarm plan rules n (Some a) = alarm_parts plan rules n a
