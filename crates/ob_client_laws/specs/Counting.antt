-- How many events the feeds of a site have had. A write that would bring more than 9,223,372,036,854,775,807 is refused, so that
-- their number is an int (oBIX 1.1, section 4.2.2).
use Rattle.std.specs.Prelude.{◌≡◌, ℕ, ◌≤◌, ◌<◌, ◌^◌, List, length, Ok}
use Rattle.std.specs.List.{AllByRecursion}
use Rattle.ob_machine.specs.History.{after}
use Rattle.ob_object.specs.Object.{Object, parts}
use Rattle.ob_object.specs.WellFormed.{IsWellFormed}
use Rattle.ob_site_rules.specs.Opening.{opening}
use Rattle.ob_site_rules.specs.State.{State}
use Rattle.ob_site_rules.specs.Sites.{SiteState}
use Rattle.ob_site_rules.specs.Writes.{events_ever}
use Rattle.ob_site_laws.specs.SiteLaws.{acts, Call}
use Rattle.ob_client.specs.Mirrors.{most_missed}

-- The records of each history, those that rolled off counted, and the alarm events are at most so many as a mirror counts.
pub record AreCounted (s : State) : Type 0 where
  pub records : AllByRecursion (λ l. events_ever l.1 ≤ most_missed) s.logs
  pub alarms : length s.events ≤ most_missed

-- So it is in every state that calls lead to from such a one.
abbrev pub CountsStay : Type 0
CountsStay = (start : SiteState) → AreCounted start.world.site → (es : List Call) → AreCounted (after acts start es).world.site

-- So it is in every state that a document opens: a record is a part of the document.
abbrev pub OpensCounted : Type 0
OpensCounted = (root : Object) (boot : ℕ) (st : SiteState) → IsWellFormed root → parts root < 2 ^ 63 →
    opening root boot ≡ Ok st → AreCounted st.world.site
