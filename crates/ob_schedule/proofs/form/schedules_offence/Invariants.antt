use Rattle.std.proofs.Common.{◌≡◌, take, drop, []}
use Rattle.ob_parts.specs.Least.{earlier, least}
use Rattle.ob_parts.specs.Numbered.{numbered_from, inside}
use Rattle.ob_parts.specs.Offences.{each}
use Rattle.ob_parts.specs.Views.{part_of}
use Rattle.ob_schedule.specs.Forms as form
use Rattle.ob_schedule.proofs.form.schedules_offence.Given as goal

abbrev pub invariant-loop-place : goal.invariant-loop-place
invariant-loop-place g l =
    earlier l.first (least (each (form.schedule_offences (g.P.Points.rules l.fn.points)) (take l.place l.schedules) (numbered_from l.number (drop l.place l.schedules))))
    ≡ least (each (form.schedule_offences (g.P.Points.rules l.fn.points)) [] (inside (part_of l.fn.list)))
