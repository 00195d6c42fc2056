-- The words for a status.
use Rattle.std.specs.Prelude.{ℕ, List, Result, Ok, Err, if◌then◌else◌, codes}
use Rattle.ob_object.specs.declared.status.Status.{Status}
use Rattle.ob_object.specs.declared.status.Status.TheVariants as status
use Rattle.ob_values.specs.Faults.{trim, ValueFault, NotStatus}
use Rattle.ob_encoding.specs.Kinds.{same}

abbrev pub status_of : List ℕ → Result Status ValueFault
status_of w =
    if same w (codes "disabled") then Ok status.Disabled
    else if same w (codes "fault") then Ok status.Fault
    else if same w (codes "down") then Ok status.Down
    else if same w (codes "unackedAlarm") then Ok status.UnackedAlarm
    else if same w (codes "alarm") then Ok status.Alarm
    else if same w (codes "unacked") then Ok status.Unacked
    else if same w (codes "overridden") then Ok status.Overridden
    else if same w (codes "ok") then Ok status.Ok
    else Err NotStatus

-- with white space round it
abbrev pub status_read : List ℕ → Result Status ValueFault
status_read bytes = status_of (trim bytes)
