-- What an entry and a schedule tell has no number below their own.
use Rattle.std.proofs.Common.{ℕ, [], ◌++◌, Option, codes}
use Rattle.std.specs.Prelude.{not}
use Rattle.std.specs.List.{list_any}
use Rattle.ob_object.specs.Kinds.{same_kind}
use Rattle.ob_object.specs.declared.kind.Kind.{Kind}
use Rattle.ob_object.specs.declared.kind.Kind.TheVariants as kind
use Rattle.ob_parts.specs.Numbered.{inside_child}
use Rattle.ob_parts.specs.Offences.{unless, needs, each}
use Rattle.ob_parts.proofs.Above.{TellsBehind, above_append, above_unless, above_needs, above_listed}
use Rattle.ob_schedule.specs.declared.rule.ScheduleRule.{ScheduleRule}
use Rattle.ob_schedule.specs.declared.rule.ScheduleRule.TheVariants as rule
use Rattle.ob_parts.specs.declared.offence.Offence.{Offence}
use Rattle.ob_schedule.specs.Forms.{is_day, is_time, is_list, is_point, is_value, point_rule, value_rule, is_same_time, week_time, entry_offences, schedule_offences, point_of}
use Rattle.ob_schedule.specs.PointRules.{PointRules, Text}

pub above_entry : (site : PointRules) (point : Option (Text × Kind)) (o : Offence ScheduleRule) → TellsBehind o (entry_offences site point)
above_entry site point o before e h =
    let value = needs (codes "value") (value_rule point) (is_value site point) e in
    let twice = unless (not (list_any (λ other. is_same_time (week_time other) (week_time e.object)) before)) rule.TimeTwice e in
    let time = needs (codes "at") (λ _. rule.At) is_time e in
    let day = needs (codes "day") (λ _. rule.Day) is_day e in
    above_append o (unless (same_kind e.object.head.kind kind.Obj) rule.Kind e) (day ++ (time ++ (value ++ twice))) (above_unless o _ _ e h.above)
    (above_append o day (time ++ (value ++ twice)) (above_needs o (codes "day") (λ _. rule.Day) is_day e h)
    (above_append o time (value ++ twice) (above_needs o (codes "at") (λ _. rule.At) is_time e h)
    (above_append o value twice (above_needs o (codes "value") (value_rule point) (is_value site point) e h) (above_unless o _ _ e h.above))))

pub above_schedule : (site : PointRules) (o : Offence ScheduleRule) → TellsBehind o (schedule_offences site)
above_schedule site o before s h =
    let point = needs (codes "point") (point_rule site) (is_point site before) s in
    let list = needs (codes "entries") (λ _. rule.Entries) (is_list 1 100) s in
    let judge = entry_offences site (point_of site before s.object) in
    let listed = each judge [] (inside_child (codes "entries") s) in
    above_append o (unless (same_kind s.object.head.kind kind.Obj) rule.Kind s) (point ++ (list ++ listed)) (above_unless o _ _ s h.above)
    (above_append o point (list ++ listed) (above_needs o (codes "point") (point_rule site) (is_point site before) s h)
    (above_append o list listed (above_needs o (codes "entries") (λ _. rule.Entries) (is_list 1 100) s h)
    (above_listed o judge (above_entry site (point_of site before s.object) o) (codes "entries") s h)))
