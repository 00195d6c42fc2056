use Rattle.std.proofs.Common.{◌≡◌, ◌++◌, [], subst}
use Rattle.std.specs.Prelude.{codes}
use Rattle.ob_object.specs.Kinds.{same_kind}
use Rattle.ob_object.specs.declared.kind.Kind.TheVariants as kind
use Rattle.ob_schedule.specs.declared.rule.ScheduleRule.TheVariants as rule
use Rattle.ob_schedule.specs.Forms as form
use Rattle.ob_parts.specs.Least.{least}
use Rattle.ob_parts.specs.Numbered.{inside_child}
use Rattle.ob_parts.specs.Views.{part_of}
use Rattle.ob_parts.proofs.Earliest.{both}
use Rattle.ob_schedule.proofs.form.schedule_offence.Goals as goal

pub returns : goal.returns
returns g c =
    let site = g.P.Points.rules c.args.points.now in
    let p = part_of c.args.schedule in
    let kinds = form.unless (same_kind p.object.head.kind kind.Obj) rule.Kind p in
    let point = form.needs (codes "point") (form.point_rule site) (form.is_point site c.args.before.now) p in
    let list = form.needs (codes "entries") (λ _. rule.Entries) (form.is_list 1 100) p in
    let listed = inside_child (codes "entries") p in
    let inner = list ++ form.each (form.entry_offences site (form.point_of site c.args.before.now p.object)) [] listed in
    both kinds (point ++ inner) c.kind_offence-kind.result c.earlier.result c.earlier-2.result c.earlier-2.ensures c.kind_offence-kind.ensures
    (both point inner c.judge_point-point.result.1 c.in_ok-entries.entries c.earlier.result c.earlier.ensures c.judge_point-point.ensures.offence
    (subst (λ t. c.in_ok-entries.entries ≡ least (list ++ form.each (form.entry_offences site t) [] listed)) c.judge_point-point.ensures.point c.in_ok-entries.ensures))
