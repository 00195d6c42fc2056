-- No event has a name.
use Rattle.std.proofs.Common.{◌≡◌, ℕ, List, [], ◌∷◌, ◌++◌, map, Option, Some, None, refl}
use Rattle.std.specs.Prelude.{zero, suc, slice_get, length}
use Rattle.std.specs.List.{AllByRecursion}
use Rattle.ob_object.specs.Object.{Object}
use Rattle.ob_history.specs.declared.records.Record.{Record}
use Rattle.ob_alarms.specs.AlarmObjects.{shown_alarm, shown_event, object_in, alarms_after}
use Rattle.ob_alarms.specs.Changes.{State as Board, alarm_of}
use Rattle.ob_alarms.specs.declared.alarm.Alarm.{Alarm}
use Rattle.ob_alarms.specs.declared.alarm.Event.{Event}
use Rattle.ob_alarms.specs.declared.rule.Rule.{Rule}
use Rattle.std.specs.Prelude.{unwrap_or}
use Rattle.ob_site_rules.specs.declared.plan.Plan.{Plan}
use Rattle.ob_site_rules.specs.State.{State, board}
use Rattle.ob_site_rules.specs.Entries.{empty_object, record_object, event_object, first_events}
use Rattle.ob_site_rules.specs.Posts.{records_of}
use Rattle.ob_site_rules.specs.declared.resource.Resource.{Resource}
use Rattle.ob_site_rules.specs.declared.resource.Resource.TheVariants.{About, Batch, Service, Make, AlarmAt, AckOf, WritePointOf, QueryOf, FeedOf, AlarmQuery, AlarmFeed, Node}
use Rattle.ob_site_rules.specs.Watched.{events_at}

abbrev pub IsNameless : Object → Type 0
IsNameless o = o.head.name ≡ None

abbrev AllNameless : List Object → Type 0
AllNameless os = AllByRecursion (λ o. IsNameless o) os

records : (rs : List Record) → AllNameless (map record_object rs)
records [] = tt
records (r ∷ rs) = (refl, records rs)

one_in : (b : Board) (number : ℕ) (a : Alarm) (r : Option Rule) → IsNameless (unwrap_or (object_in b.root r number a) empty_object)
one_in b number a None = refl
one_in b number a (Some r) = refl

one_shown : (b : Board) (number : ℕ) (o : Option Alarm) → IsNameless (unwrap_or (shown_alarm b number o) empty_object)
one_shown b number None = refl
one_shown b number (Some a) = one_in b number a (slice_get b.rules a.rule)

one_event : (b : Board) (n : ℕ) (o : Option Event) → IsNameless (unwrap_or (shown_event b n o) empty_object)
one_event b n None = refl
one_event b n (Some e) = one_shown b e.number (alarm_of e.number (alarms_after n b))

with_last : (os : List Object) (o : Object) → AllNameless os → IsNameless o → AllNameless (os ++ o ∷ [])
with_last [] o all one = (one, tt)
with_last (p ∷ os) o all one = (all.0, with_last os o all.1 one)

firsts : (b : Board) (n : ℕ) → AllNameless (first_events b n)
firsts b zero = tt
firsts b (suc n) = with_last (first_events b n) (event_object b n) (firsts b n) (one_event b n (slice_get b.events n))

pub all_nameless : (plan : Plan) (s : State) (place : Option Resource) → AllNameless (events_at plan s place)
all_nameless plan s (Some (FeedOf h)) = records (records_of s h)
all_nameless plan s (Some AlarmFeed) = firsts (board plan s) (length s.events)
all_nameless plan s None = tt
all_nameless plan s (Some (Node o)) = tt
all_nameless plan s (Some About) = tt
all_nameless plan s (Some Batch) = tt
all_nameless plan s (Some Service) = tt
all_nameless plan s (Some Make) = tt
all_nameless plan s (Some (AlarmAt n)) = tt
all_nameless plan s (Some (AckOf n)) = tt
all_nameless plan s (Some (WritePointOf q)) = tt
all_nameless plan s (Some (QueryOf h)) = tt
all_nameless plan s (Some AlarmQuery) = tt
