use Rattle.std.proofs.Common.{ap, sym, ◌∙◌, codes}
use Rattle.std.specs.Prelude.{option_map, Some}
use Rattle.ob_parts.specs.Views.{part_of}
use Rattle.ob_parts.proofs.Above.{wrong_list}
use Rattle.ob_schedule.specs.declared.rule.ScheduleRule.TheVariants as rule
use Rattle.ob_schedule.specs.Forms as form
use Rattle.ob_schedule.proofs.Above.{above_schedule}
use Rattle.ob_schedule.proofs.form.listed_schedules.Goals as goal

pub returns-in-Some-2 : goal.returns-in-Some-2
returns-in-Some-2 g c =
    let site = g.P.Points.rules c.args.points.now in
    ap Some c.breaks.ensures ∙ wrong_list (codes "schedules") (λ _. rule.Schedules) (form.is_list 0 1_000) (form.schedule_offences site) (above_schedule site) (part_of c.args.doc) (part_of c.in-Some.list)
    (sym c.child.ensures ∙ ap (option_map part_of) c.in-Some.is) (sym c.is_list.ensures ∙ c.if-is_list.false)
