-- What the feeds of a site have had of events: those of its histories, in the plan's order, and behind them that of its alarms.
-- Source: oBIX 1.1, sections 14.2 (HistoryRecord) and 15.1 (Alarm); that an event passes by the timestamp of its alarm is this
-- profile's own.
use Rattle.std.specs.Prelude.{◌≡◌, ℕ, List, [], ◌∷◌, ◌++◌, map, Option, Some, None}
use Rattle.ob_times.specs.Times.{Instant, moment_instant}
use Rattle.ob_alarms.specs.Changes.{alarm_of}
use Rattle.ob_alarms.specs.declared.alarm.Alarm.{Alarm}
use Rattle.ob_alarms.specs.declared.alarm.Event.{Event}
use Rattle.ob_site_rules.specs.Build.{Path}
use Rattle.ob_site_rules.specs.Entries.{raised_at}
use Rattle.ob_site_rules.specs.State.{Log, State}
use Rattle.ob_site_rules.specs.declared.plan.Plan.{Plan}
use Rattle.ob_watch.specs.Fed.{IsFeedOf}
use Rattle.ob_watch.specs.Feeds.{FeedLog, feed_at, feed_place}

-- of a history: each record is an event
abbrev pub log_feed : Log → FeedLog
log_feed l = record { gone = l.gone; times = map (λ r. r.time) l.kept }

-- The timestamp of an event, which is of an alarm: when that was raised.
abbrev pub raised_time : Event → Option Alarm → Instant
raised_time e None = moment_instant e.at
raised_time e (Some a) = raised_at a

abbrev pub event_time : List Alarm → Event → Instant
event_time alarms e = raised_time e (alarm_of e.number alarms)

-- of the alarms, of which none rolls off
abbrev pub alarm_feed : State → FeedLog
alarm_feed s = record { gone = 0; times = map (event_time s.alarms) s.events }

-- of each feed, in the place of the feed
abbrev pub feed_logs : State → List FeedLog
feed_logs s = map (λ l. log_feed l.1) s.logs ++ alarm_feed s ∷ []

-- The feed of a place is the one that the site's definitions have at its path.
abbrev pub AreFeeds : Plan → State → Type 0
AreFeeds plan s = (path : Path) (n : ℕ) → feed_place plan path ≡ Some n → IsFeedOf plan s path (feed_at (feed_logs s) n)
