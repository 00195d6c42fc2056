-- What is counted reply by reply.
use Rattle.std.specs.Prelude.{◌≡◌, ◌+◌, cond, List, map, filter, length, sum}
use Rattle.ob_object.specs.Object.{Object}
use Rattle.ob_storm.specs.declared.run.Tally.{Tally}
use Rattle.ob_storm.specs.Counts.{is_err, objects_in, events_in, counted}

-- the counts of these replies
pub record IsTallied (got : List Object) (t : Tally) : Type 0 where
  pub errs : t.errs ≡ length (filter is_err got)
  pub objects : t.objects ≡ counted (sum (map objects_in got))
  pub events : t.events ≡ counted (sum (map events_in got))

-- one more reply was counted
pub record IsCounted (t : Tally) (reply : Object) (u : Tally) : Type 0 where
  pub errs : u.errs ≡ t.errs + cond (is_err reply) 1 0
  pub objects : u.objects ≡ counted (t.objects + objects_in reply)
  pub events : u.events ≡ counted (t.events + events_in reply)
