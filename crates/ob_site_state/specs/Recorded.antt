-- What the histories of a node take.
use Rattle.std.specs.Prelude.{◌≡◌, ℕ, ◌+◌, ◌^◌, ◌<◌, Bool, true, List, slice_get, Option, Some}
use Rattle.ob_history.specs.declared.records.Record.{Record}
use Rattle.ob_history.specs.Records.{IsRecord}
use Rattle.ob_site_rules.specs.Build.{Path}
use Rattle.ob_object.specs.Paths.{is_path}
use Rattle.ob_site_rules.specs.State.{Log}
use Rattle.ob_site_rules.specs.declared.plan.Plan.{Plan}
use Rattle.ob_site_rules.specs.Writes.{events_ever, records_from}

-- the log of a place takes a record, where the history has this source: it is one, and its events can be counted
abbrev pub TakesRecord : Plan → Record → Path → List (Path × Log) → ℕ → Type 0
TakesRecord plan r source ls place =
    (l : Path × Log) → slice_get ls place ≡ Some l → records_from plan source l.0 ≡ true → (events_ever l.1 + 1 < 2 ^ 63) × IsRecord r
