-- A storm on a machine.
use Rattle.std.specs.Prelude.{ℕ, ◌+◌, List, [], ◌∷◌, map, filter, length, sum, codes}
use Rattle.ob_object.specs.Object.{Object}
use Rattle.ob_site_rules.specs.declared.request.Request.{Request}
use Rattle.ob_storm.specs.declared.storm.Storm.{Storm}
use Rattle.ob_storm.specs.declared.totals.Totals.{Totals}
use Rattle.ob_storm.specs.Requests.{get, beginning, stormed}
use Rattle.ob_storm.specs.Counts.{is_err, objects_in, events_in, counted, count_shown}

-- 2026-01-05T08:00:00Z, in milliseconds since 1970: the site is opened then, and the first request made
abbrev pub boot : ℕ
boot = 1_767_600_000_000

-- what is counted in the replies, and at the end by a state
abbrev pub totals_of : List Object → (records alarms : ℕ) → Totals
totals_of got records alarms = record {
  requests = length got;
  errs = length (filter is_err got);
  objects = counted (sum (map objects_in got));
  events = counted (sum (map events_in got));
  records = records;
  alarms = alarms;
}

-- act s q t is the state that the request q at the moment t leaves of s, and the reply
module _ {S : Type 0} (act : S → Request → ℕ → S × Object) where
  -- the replies to requests that are made a millisecond apart, the first at this moment
  abbrev pub replies : S → ℕ → List Request → List Object
  replies s at [] = []
  replies s at (q ∷ qs) = (act s q at).1 ∷ replies (act s q at).0 (at + 1) qs

  -- the state that they leave
  abbrev pub left_by : S → ℕ → List Request → S
  left_by s at [] = s
  left_by s at (q ∷ qs) = left_by (act s q at).0 (at + 1) qs

  -- the requests before the storm, and then the storm, whose replies are counted; the records and the alarms are those that the
  -- history and the alarm subject show a reader at the end
  abbrev pub totals : Storm → S → Totals
  totals storm opening =
      let first : ℕ = boot + length (beginning storm) in
      let begun : S = left_by opening boot (beginning storm) in
      let end : ℕ = first + length (stormed storm) in
      let ended : S = left_by begun first (stormed storm) in
      let after : S × Object = act ended (get (codes "/obix/h")) end in
      totals_of (replies begun first (stormed storm)) (count_shown after.1) (count_shown (act after.0 (get (codes "/obix/alarms")) (end + 1)).1)
