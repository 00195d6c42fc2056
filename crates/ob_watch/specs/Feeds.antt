-- The feeds of a site, by their numbers from 0: those of the histories in the plan's order, and that of the alarm subject after
-- them. Source: oBIX 1.1, chapters 14 (Histories) and 15 (Alarming).
use Rattle.std.specs.Prelude.{◌≡◌, ℕ, ◌+◌, ◌-◌, Bool, ◌||◌, List, [], length, drop, nat_lt, Option, Some, None, unwrap_or, option_and_then, slice_get, position}
use Rattle.std.specs.List.{list_any}
use Rattle.std.specs.Str.{bytes_eq}
use Rattle.ob_times.specs.Times.{Instant}
use Rattle.ob_history.specs.declared.records.Filter.{Filter}
use Rattle.ob_site_rules.specs.Entries.{is_within}
use Rattle.ob_site_rules.specs.Build.{Path}
use Rattle.ob_site_rules.specs.Places.{event_places}
use Rattle.ob_site_rules.specs.State.{at}
use Rattle.ob_site_rules.specs.declared.plan.Plan.{Plan}
use Rattle.ob_site_rules.specs.declared.resource.Resource.{Resource}
use Rattle.ob_site_rules.specs.declared.resource.Resource.TheVariants.{FeedOf, AlarmFeed}

-- A feed as watches look at it: how many events rolled off, and the timestamps of the kept ones, the oldest first.
pub record FeedLog : Type 0 where
  pub gone : ℕ
  pub times : List Instant

-- how many events it has had ever
abbrev pub ever : FeedLog → ℕ
ever l = l.gone + length l.times

-- a kept event from a number on passes, counted from the first event ever
abbrev pub passes_since : FeedLog → ℕ → Filter → Bool
passes_since l given filter = list_any (is_within filter) (drop (given - l.gone) l.times)

-- Something of it is to be reported after so many events were: some of the others rolled off, or a kept one passes.
abbrev pub has_news : FeedLog → ℕ → Filter → Bool
has_news l given filter = nat_lt given l.gone || passes_since l given filter

-- a feed without events
abbrev pub no_events : FeedLog
no_events = record { gone = 0; times = [] }

-- the feed of a number; without events where there is none
abbrev pub feed_at : List FeedLog → ℕ → FeedLog
feed_at logs n = unwrap_or (slice_get logs n) no_events

-- the number of the feed that stands at a place, if one does
abbrev pub feed_of : Plan → Resource → Option ℕ
feed_of plan (FeedOf history) = position (λ h. bytes_eq h.0 history) plan.histories
feed_of plan AlarmFeed = Some (length plan.histories)
feed_of plan _ = None

-- the number of the feed at a path, if one stands there
abbrev pub feed_place : Plan → Path → Option ℕ
feed_place plan path = option_and_then (feed_of plan) (at path (event_places plan))
