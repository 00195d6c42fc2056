-- What holds of the parts of a document of the form; no public clause stands on this.
use Rattle.std.specs.Prelude.{◌≡◌, ◌≤◌, ◌%◌, true, codes, length, is_some, ◌&&◌, ◌==◌, nat_lt, int_le, pos}
use Rattle.std.specs.List.{All}
use Rattle.jiff_tz.specs.PosixReader.{read_whole}
use Rattle.ob_object.specs.Object.{Object}
use Rattle.ob_schedule.specs.Forms.{holds, said, zone_text, day_value, time_value}
use Rattle.ob_schedule.specs.Weeks.{listed_in}

pub record IsRightEntry (e : Object) : Type 0 where
  pub day : holds (λ i. int_le (pos 1) i && int_le i (pos 7)) (said (codes "day") day_value e) ≡ true
  pub time : holds (λ t. nat_lt t 86_400_000_000_000 && (t % 1_000_000 == 0)) (said (codes "at") time_value e) ≡ true

pub record IsRightSchedule (s : Object) : Type 0 where
  pub some : 1 ≤ length (listed_in (codes "entries") s)
  pub few : length (listed_in (codes "entries") s) ≤ 100
  pub entries : All IsRightEntry (listed_in (codes "entries") s)

pub record IsRightFile (doc : Object) : Type 0 where
  pub zone : holds (λ t. is_some (read_whole t)) (said (codes "zone") zone_text doc) ≡ true
  pub few : length (listed_in (codes "schedules") doc) ≤ 1_000
  pub schedules : All IsRightSchedule (listed_in (codes "schedules") doc)
