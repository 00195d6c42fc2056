use Rattle.std.proofs.Common.{ap, sym, ◌∙◌, codes}
use Rattle.std.specs.Prelude.{option_map, Some}
use Rattle.ob_parts.specs.Views.{part_of}
use Rattle.ob_parts.proofs.Above.{wrong_list}
use Rattle.ob_schedule.specs.declared.rule.ScheduleRule.TheVariants as rule
use Rattle.ob_schedule.specs.Forms as form
use Rattle.ob_schedule.specs.Views.{point_of}
use Rattle.ob_schedule.proofs.Above.{above_entry}
use Rattle.ob_schedule.proofs.form.listed_entries.Goals as goal

pub returns-in-Some-2 : goal.returns-in-Some-2
returns-in-Some-2 g c =
    let site = g.P.Points.rules c.args.points.now in
    let point = option_map point_of c.args.point in
    ap Some c.breaks.ensures ∙ wrong_list (codes "entries") (λ _. rule.Entries) (form.is_list 1 100) (form.entry_offences site point) (above_entry site point) (part_of c.args.schedule) (part_of c.in-Some.list)
    (sym c.child.ensures ∙ ap (option_map part_of) c.in-Some.is) (sym c.is_list.ensures ∙ c.if-is_list.false)
