-- The records of the histories that a document opens. Source: oBIX 1.1, section 14.2 (HistoryRecord).
use Rattle.std.specs.Prelude.{◌≡◌, ℕ, List, Ok}
use Rattle.std.specs.List.{AllByRecursion}
use Rattle.ob_object.specs.Object.{Object}
use Rattle.ob_object.specs.WellFormed.{IsWellFormed}
use Rattle.ob_history.specs.Records.{InOrder, IsRecord}
use Rattle.ob_site_rules.specs.Build.{Path}
use Rattle.ob_site_rules.specs.State.{Log, rolled_logs}
use Rattle.ob_site_rules.specs.Sites.{SiteState}
use Rattle.ob_site_rules.specs.Opening.{opening}
use Rattle.ob_step_laws.specs.Ordered.{IsBy, opening_time}

-- a fact of each log
abbrev pub EachLog : (Log → Type 0) → List (Path × Log) → Type 0
EachLog P ls = AllByRecursion (λ (l : Path × Log). P l.1) ls

-- each entry of a log is a record: its kind has values, and its slot is null or one of them
abbrev pub HoldsRecords : Log → Type 0
HoldsRecords l = AllByRecursion IsRecord l.kept

-- The logs of an opened state roll from these, of which nothing has rolled off. Their entries are records in order, none after the
-- time; and the time is the first moment that is neither before the boot nor before one of them.
pub record HasRecords (boot : ℕ) (st : SiteState) : Type 0 where
  pub whole : List (Path × Log)
  pub rolls : rolled_logs whole ≡ st.world.site.logs
  pub none_gone : EachLog (λ l. l.gone ≡ 0) whole
  pub records : EachLog HoldsRecords whole
  pub in_order : EachLog (λ l. InOrder l.kept) whole
  pub in_time : EachLog (λ l. AllByRecursion (IsBy st.world.time) l.kept) whole
  pub time : st.world.time ≡ opening_time boot whole
  -- so those that are kept are records too
  pub kept : EachLog HoldsRecords st.world.site.logs

-- So it is of each state that a well-formed document opens.
abbrev pub OpensRecords : Type 0
OpensRecords = (root : Object) (boot : ℕ) (st : SiteState) → IsWellFormed root → opening root boot ≡ Ok st → HasRecords boot st
