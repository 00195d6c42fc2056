use Rattle.std.proofs.Common.{◌≡◌, take, drop, []}
use Rattle.std.specs.Prelude.{option_map}
use Rattle.ob_parts.specs.Least.{earlier, least}
use Rattle.ob_parts.specs.Numbered.{numbered_from, inside}
use Rattle.ob_parts.specs.Offences.{each}
use Rattle.ob_parts.specs.Views.{part_of}
use Rattle.ob_schedule.specs.Forms as form
use Rattle.ob_schedule.specs.Views.{point_of}
use Rattle.ob_schedule.proofs.form.entries_offence.Given as goal

abbrev pub invariant-loop-place : goal.invariant-loop-place
invariant-loop-place g l =
    earlier l.first (least (each (form.entry_offences (g.P.Points.rules l.fn.points) (option_map point_of l.fn.point)) (take l.place l.entries) (numbered_from l.number (drop l.place l.entries))))
    ≡ least (each (form.entry_offences (g.P.Points.rules l.fn.points) (option_map point_of l.fn.point)) [] (inside (part_of l.fn.list)))
