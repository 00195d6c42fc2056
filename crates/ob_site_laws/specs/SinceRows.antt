-- Worked rows of what is held of a feed through a filter without a bound, and of what the alarms tell.
use Rattle.std.specs.Prelude.{◌≡◌, pos, false, codes, List, [], ◌∷◌, Some, None}
use Rattle.ob_object.specs.Object.{Object}
use Rattle.ob_history.specs.Filters.{everything}
use Rattle.ob_alarms.specs.Changes.{State as Board}
use Rattle.ob_alarms.specs.declared.alarm.Alarm.{Alarm}
use Rattle.ob_alarms.specs.declared.alarm.Event.{Event}
use Rattle.ob_alarms.specs.declared.alarm.What.TheVariants as what
use Rattle.ob_alarms.specs.declared.rule.Num.TheVariants.{Int}
use Rattle.ob_watching.specs.Operations.{Lists}
use Rattle.ob_site_rules.specs.Build.{Path}
use Rattle.ob_site_rules.specs.Entries.{event_object}
use Rattle.ob_site_rules.specs.declared.plan.Plan.{Plan}
use Rattle.ob_site_rules.specs.State.{State}
use Rattle.ob_site_rules.specs.Watched.{feed_there, passes}
use Rattle.ob_site_laws.specs.SiteLaws.{TellsEvents, HoldsAllSince}

-- a plan whose alarm subject is `/obix/alarms`, without a history
abbrev pub with_subject : Plan → Plan
with_subject plan = record plan { histories = []; subject = Some (codes "/obix/alarms") }

-- the feed of its alarms
abbrev pub alarm_feed : Path
alarm_feed = codes "/obix/alarms/feed"

-- an alarm of the first rule that was raised by 30 at a moment and then ended
abbrev pub one_alarm : Alarm
one_alarm = record { rule = 0; value = Int (pos 30); raised = record { at = 5; event = 0 }; normal = Some (record { at = 6; event = 1 }); ack = None }

-- its two events
abbrev pub its_events : List Event
its_events = record { number = 1; what = what.Raised; at = 5 } ∷ record { number = 1; what = what.Normal; at = 6 } ∷ []

-- Of two events of the alarms since, who holds one and has missed none doesn't hold the feed.
abbrev pub OneIsLacking : Type 0
OneIsLacking =
    (plan : Plan) (s : State) (event : Object) →
    let p : Plan = with_subject plan in
    HoldsAllSince p (record s { alarms = one_alarm ∷ []; events = its_events }) (record s { alarms = []; events = [] }) alarm_feed (Lists (feed_there p alarm_feed) 0 (event ∷ [])) → ⊥

-- Alarms that don't show an event don't tell it: here it is of an alarm that isn't there.
abbrev pub NoneWithoutItsAlarm : Type 0
NoneWithoutItsAlarm = (b : Board) → TellsEvents (record b { alarms = []; events = record { number = 1; what = what.Acked; at = 5 } ∷ [] }) → ⊥

-- Such an event would pass no filter, not even the one that sets nothing.
abbrev pub PassesNone : Type 0
PassesNone = (b : Board) → passes everything (event_object (record b { alarms = []; events = record { number = 1; what = what.Acked; at = 5 } ∷ [] }) 0) ≡ false
