use Rattle.std.specs.Prelude.{codes, not, option_map}
use Rattle.std.specs.List.{list_any}
use Rattle.ob_object.specs.Kinds.{same_kind}
use Rattle.ob_object.specs.declared.kind.Kind.TheVariants as kind
use Rattle.ob_schedule.specs.declared.rule.ScheduleRule.TheVariants as rule
use Rattle.ob_schedule.specs.Forms as form
use Rattle.ob_parts.specs.Views.{part_of}
use Rattle.ob_schedule.specs.Views.{point_of}
use Rattle.ob_parts.proofs.Earliest.{of_five}
use Rattle.ob_schedule.proofs.form.entry_offence.Goals as goal

pub returns : goal.returns
returns g c =
    let site = g.P.Points.rules c.args.points.now in
    let p = part_of c.args.entry in
    of_five (form.unless (same_kind p.object.head.kind kind.Obj) rule.Kind p) (form.needs (codes "day") (λ _. rule.Day) form.is_day p) (form.needs (codes "at") (λ _. rule.At) form.is_time p)
    (form.needs (codes "value") (form.value_rule (option_map point_of c.args.point)) (form.is_value site (option_map point_of c.args.point)) p)
    (form.unless (not (list_any (λ other. form.is_same_time (form.week_time other) (form.week_time p.object)) c.args.before.now)) rule.TimeTwice p)
    c.kind_offence-kind.result c.day_offence-day.result c.time_offence-time.result c.in_ok-value.value c.twice_offence-twice.result c.earlier-3.result c.earlier-2.result c.earlier.result c.earlier-4.result
    c.earlier-4.ensures c.earlier-3.ensures c.earlier-2.ensures c.earlier.ensures c.kind_offence-kind.ensures c.day_offence-day.ensures c.time_offence-time.ensures c.in_ok-value.ensures c.twice_offence-twice.ensures
