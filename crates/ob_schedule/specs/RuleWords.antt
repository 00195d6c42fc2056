-- The rules of a file of schedules in a word or two, as they are printed.
use Rattle.std.specs.Prelude.{ℕ, List, codes}
use Rattle.ob_schedule.specs.declared.rule.ScheduleRule.{ScheduleRule}
use Rattle.ob_schedule.specs.declared.rule.ScheduleRule.TheVariants as rule

abbrev pub rule_word : ScheduleRule → List ℕ
rule_word rule.Kind = codes "kind"
rule_word rule.Zone = codes "zone"
rule_word rule.Schedules = codes "schedules"
rule_word rule.Point = codes "point"
rule_word rule.NotWritable = codes "not writable"
rule_word rule.PointTwice = codes "point twice"
rule_word rule.Entries = codes "entries"
rule_word rule.Day = codes "day"
rule_word rule.At = codes "at"
rule_word rule.Value = codes "value"
rule_word rule.ValueKind = codes "value kind"
rule_word rule.ValueLimits = codes "value limits"
rule_word rule.TimeTwice = codes "time twice"
