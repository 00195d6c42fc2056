use Rattle.std.proofs.Common.{◌≡◌, ◌++◌, [], subst}
use Rattle.std.specs.Prelude.{codes}
use Rattle.ob_object.specs.Kinds.{same_kind}
use Rattle.ob_object.specs.declared.kind.Kind.TheVariants as kind
use Rattle.ob_schedule.specs.declared.rule.ScheduleRule.TheVariants as rule
use Rattle.ob_schedule.specs.Forms as form
use Rattle.ob_parts.specs.Least.{least}
use Rattle.ob_parts.specs.Numbered.{Part, inside_child}
use Rattle.ob_parts.specs.Views.{part_of}
use Rattle.ob_parts.proofs.Earliest.{both}
use Rattle.ob_schedule.proofs.form.first_offence.Goals as goal

pub returns : goal.returns
returns g c =
    let site = g.P.Points.rules c.args.points.now in
    let p = part_of c.root-doc.result in
    let kinds = form.unless (same_kind p.object.head.kind kind.Obj) rule.Kind p in
    let zone = form.needs (codes "zone") (λ _. rule.Zone) form.is_zone p in
    let list = form.needs (codes "schedules") (λ _. rule.Schedules) (form.is_list 0 1_000) p ++ form.each (form.schedule_offences site) [] (inside_child (codes "schedules") p) in
    subst (λ (p : Part). c.earlier-2.result ≡ least (form.unless (same_kind p.object.head.kind kind.Obj) rule.Kind p ++ (form.needs (codes "zone") (λ _. rule.Zone) form.is_zone p
    ++ (form.needs (codes "schedules") (λ _. rule.Schedules) (form.is_list 0 1_000) p ++ form.each (form.schedule_offences site) [] (inside_child (codes "schedules") p)))))
    c.root-doc.ensures
    (both kinds (zone ++ list) c.kind_offence-kind.result c.earlier.result c.earlier-2.result c.earlier-2.ensures c.kind_offence-kind.ensures
    (both zone list c.zone_offence-zone.result c.in_ok-schedules.schedules c.earlier.result c.earlier.ensures c.zone_offence-zone.ensures c.in_ok-schedules.ensures))
