-- The rows, by computing.
use Rattle.std.specs.Prelude.{refl}
use Rattle.std.specs.Fmt.{digits}
use Rattle.ob_contracts.specs.Inherit.{result_of}
use Rattle.ob_contracts.specs.Standard.{standard}
use Rattle.ob_site_rows.specs.RestartRows.{AfterARestart, AfterAReplay, AlarmsStay}

pub after_a_restart : AfterARestart
unfolding digits result_of standard
after_a_restart = refl

pub after_a_replay : AfterAReplay
unfolding digits result_of standard
after_a_replay = refl

pub alarms_stay : AlarmsStay
unfolding digits result_of standard
alarms_stay = refl
