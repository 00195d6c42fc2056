use Rattle.std.proofs.Common.{ap, sym, ◌∙◌, codes}
use Rattle.std.specs.Prelude.{option_map}
use Rattle.ob_parts.specs.Views.{part_of}
use Rattle.ob_parts.proofs.Needed.{said_some, said_none}
use Rattle.ob_schedule.specs.Forms as form
use Rattle.ob_schedule.proofs.form.judge_point.Goals as goal

pub returns-in-Some-clause-point : goal.returns-in-Some-clause-point
returns-in-Some-clause-point g c =
    c.right_point-right.ensures
    ∙ sym (said_some (codes "point") (form.right_point (g.P.Points.rules c.args.points.now) c.args.before.now) (part_of c.args.schedule) (part_of c.in-Some.point)
    (sym c.child.ensures ∙ ap (option_map part_of) c.in-Some.is))

pub returns-in-None-clause-point : goal.returns-in-None-clause-point
returns-in-None-clause-point g c =
    sym (said_none (codes "point") (form.right_point (g.P.Points.rules c.args.points.now) c.args.before.now) (part_of c.args.schedule)
    (sym c.child.ensures ∙ ap (option_map part_of) c.in-None.is))
