use Rattle.std.proofs.Common.{sym, ◌∙◌}
use Rattle.ob_schedule.specs.Forms as form
use Rattle.ob_parts.proofs.Earliest.{least_none, least_some}
use Rattle.ob_schedule.proofs.form.check_form.Goals as goal

pub returns-in-Some-clause-refuses : goal.returns-in-Some-clause-refuses
returns-in-Some-clause-refuses g c = least_some (form.offences (g.P.Points.rules c.args.points.now) c.args.doc.now) c.in-Some.offence (sym c.in_ok-offence.ensures ∙ c.in-Some.is)

pub returns-in-None-clause-is : goal.returns-in-None-clause-is
returns-in-None-clause-is g c = least_none (form.offences (g.P.Points.rules c.args.points.now) c.args.doc.now) (sym c.in_ok-offence.ensures ∙ c.in-None.is)
