-- Each event of a feed has a timestamp, so that a filter without a bound passes it.
use Rattle.std.proofs.Common.{arith, ℕ, ◌≡◌, ◌+◌, ◌-◌, ◌<◌, ◌≤◌, zero, suc, Bool, true, false, not, ◌&&◌, cond, List, [], ◌∷◌, ◌++◌, map, length, take, drop, reverse, Option, Some, None, refl, sym, ap, ◌∙◌, ap₂, subst}
use Rattle.std.specs.Prelude.{codes, option_and_then, option_map, slice_get, slice_index_or, unwrap_or}
use Rattle.std.specs.List.{AllByRecursion, Contains}
use Rattle.std.proofs.lemmas.List.{reverse-append, reverse-reverse}
use Rattle.ob_times.specs.Times.{Instant, moment_instant}
use Rattle.ob_object.specs.Object.{Object}
use Rattle.ob_history.specs.declared.records.Filter.{Filter}
use Rattle.ob_history.specs.declared.records.Record.{Record}
use Rattle.ob_history.specs.Records.{is_before, is_after}
use Rattle.ob_alarms.specs.AlarmObjects.{object_in, shown_alarm, shown_event, before_all, alarms_after}
use Rattle.ob_alarms.specs.Changes.{State as Board, alarm_of, before, before_what}
use Rattle.ob_alarms.specs.Soundness.{EventsShowAlarms, Shows, turn_of}
use Rattle.ob_alarms.specs.declared.alarm.Alarm.{Alarm}
use Rattle.ob_alarms.specs.declared.alarm.Event.{Event}
use Rattle.ob_alarms.specs.declared.alarm.Turn.{Turn}
use Rattle.ob_alarms.specs.declared.alarm.What.{What}
use Rattle.ob_alarms.specs.declared.alarm.What.TheVariants as what
use Rattle.ob_alarms.specs.declared.rule.Rule.{Rule}
use Rattle.ob_alarms.proofs.Counting.{get_some}
use Rattle.ob_alarms.proofs.Early.{get_last}
use Rattle.ob_alarms.proofs.Tracks.{differ}
use Rattle.ob_site_rules.specs.Build.{child}
use Rattle.ob_site_rules.specs.Entries.{empty_object, record_object, event_object, event_objects, is_within}
use Rattle.ob_site_rules.specs.declared.resource.Resource.{Resource}
use Rattle.ob_site_rules.specs.declared.resource.Resource.TheVariants.{About, Batch, Service, Make, AlarmAt, AckOf, WritePointOf, QueryOf, FeedOf, AlarmQuery, AlarmFeed, Node}
use Rattle.ob_site_rules.specs.Posts.{records_of}
use Rattle.ob_site_rules.specs.declared.plan.Plan.{Plan}
use Rattle.ob_site_rules.specs.State.{State, board}
use Rattle.ob_site_rules.specs.Watched.{events_at, passes, time_in}
use Rattle.ob_site_laws.specs.SiteLaws.{TellsEvents, HasNoBound}
use Rattle.ob_site_laws.proofs.Boards.{IsNext, next_event}
use Rattle.ob_site_laws.proofs.EventsTold.{all_more, all_changed}

-- the timestamp of an event, if it has one
abbrev time_of : Object → Option Instant
time_of e = option_and_then (λ o. time_in o.head.slot) (child (codes "timestamp") e)

abbrev pub HasTime : Object → Type 0
HasTime e = (t : Instant) × (time_of e ≡ Some t)

abbrev AllTimed : List Object → Type 0
AllTimed es = AllByRecursion (λ e. HasTime e) es

abbrev IsOf : List Rule → Alarm → Type 0
IsOf rules a = a.rule < length rules

-- without a bound a filter passes whatever has a timestamp
open_passes : (start end : Option Instant) (r : Record) → start ≡ None → end ≡ None → (not (is_before start r) && not (is_after end r)) ≡ true
open_passes start end r a b = ap₂ (λ (s e : Option Instant). not (is_before s r) && not (is_after e r)) a b

pub timed_passes : (f : Filter) (e : Object) → HasNoBound f → HasTime e → passes f e ≡ true
timed_passes f e wide h =
    ap (λ (o : Option Instant). unwrap_or (option_map (is_within f) o) false) h.1 ∙ open_passes f.start f.end _ wide.0 wide.1

records_timed : (rs : List Record) → AllTimed (map record_object rs)
records_timed [] = tt
records_timed (r ∷ rs) = ((r.time, refl), records_timed rs)

-- an alarm whose rule is there has the timestamp of its raise
in_timed : (root : List ℕ) (number : ℕ) (a : Alarm) (rule : Option Rule) (r : Rule) → rule ≡ Some r → HasTime (unwrap_or (object_in root rule number a) empty_object)
in_timed root number a rule r is = subst (λ (o : Option Rule). HasTime (unwrap_or (object_in root o number a) empty_object)) (sym is) (moment_instant a.raised.at, refl)

alarm_timed : (b : Board) (number : ℕ) (a : Alarm) → IsOf b.rules a → HasTime (unwrap_or (shown_alarm b number (Some a)) empty_object)
alarm_timed b number a of = let there = get_some b.rules a.rule of in in_timed b.root number a (slice_get b.rules a.rule) there.0 there.1

-- an alarm among some of these rules is of one of them
all_at : {A : Type 0} (P : A → Type 0) (xs : List A) (n : ℕ) (x : A) → AllByRecursion P xs → slice_get xs n ≡ Some x → P x
all_at P [] n x all e = absurd cc
all_at P (y ∷ ys) zero x all e = let same : y ≡ x = cc in subst P same all.0
all_at P (y ∷ ys) (suc n) x all e = all_at P ys n x all.1 e

all_taken : {A : Type 0} (P : A → Type 0) (n : ℕ) (xs : List A) → AllByRecursion P xs → AllByRecursion P (take n xs)
all_taken P zero xs all = tt
all_taken P (suc n) [] all = tt
all_taken P (suc n) (x ∷ xs) all = (all.0, all_taken P n xs all.1)

of_before : (rules : List Rule) (w : What) (n : ℕ) (alarms : List Alarm) → AllByRecursion (λ a. IsOf rules a) alarms → AllByRecursion (λ a. IsOf rules a) (before_what w n alarms)
of_before rules what.Raised n alarms all = all_taken (IsOf rules) n alarms all
of_before rules what.Acked n alarms all = all_changed (IsOf rules) n (λ (a : Alarm). record a { ack = None }) (λ a of. of) alarms all
of_before rules what.Normal n alarms all = all_changed (IsOf rules) n (λ (a : Alarm). record a { normal = None }) (λ a of. of) alarms all

shown_there : (w : What) (turn : Turn) (n : ℕ) (alarms : List Alarm) (o : Option Alarm) → Shows w turn n alarms o → (a : Alarm) × (o ≡ Some a)
shown_there w turn n alarms None h = absurd h
shown_there w turn n alarms (Some a) h = (a, refl)

drop_past : {A : Type 0} (xs : List A) (y : A) (n : ℕ) → n ≡ suc (length xs) → drop n (xs ++ y ∷ []) ≡ []
drop_past [] y zero e = absurd (omega (arith, e))
drop_past [] y (suc zero) e = refl
drop_past [] y (suc (suc n)) e = refl
drop_past (x ∷ xs) y zero e = absurd (omega (arith, e))
drop_past (x ∷ xs) y (suc n) e = drop_past xs y n (omega (arith, e))

-- the newest event shows its alarm as it is
newest_timed : (b : Board) (es : List Event) (e : Event) (a : Alarm) → b.events ≡ es ++ e ∷ [] → 1 ≤ e.number → slice_get b.alarms (e.number - 1) ≡ Some a → IsOf b.rules a → HasTime (event_object b (length es))
newest_timed b es e a events from at of = subst (λ (o : Option Object). HasTime (unwrap_or o empty_object)) (sym shows) (alarm_timed b e.number a of)
  where
    last : slice_get b.events (length es) ≡ Some e
    last = ap (λ (l : List Event). slice_get l (length es)) events ∙ get_last es e

    as_it_is : alarms_after (length es) b ≡ b.alarms
    as_it_is =
        ap (λ (l : List Event). before_all (reverse (drop (length es + 1) l)) b.alarms) events
        ∙ ap (λ (l : List Event). before_all (reverse l) b.alarms) (drop_past es e (length es + 1) (omega arith))

    numbered : alarm_of e.number b.alarms ≡ Some a
    numbered = ap (λ (none : Bool). cond none None (slice_get b.alarms (e.number - 1))) (differ e.number 0 (λ z. omega (arith, z, from))) ∙ at

    shows : shown_event b (length es) (slice_get b.events (length es)) ≡ shown_alarm b e.number (Some a)
    shows =
        ap (shown_event b (length es)) last
        ∙ ap (λ (these : List Alarm). shown_alarm b e.number (alarm_of e.number these)) as_it_is
        ∙ ap (shown_alarm b e.number) numbered

-- a board of these alarms, and of these events, the newest first
abbrev telling : Board → List Alarm → List Event → Board
telling b alarms es = record b { alarms = alarms; events = reverse es }

told_timed : (b : Board) (es : List Event) (alarms : List Alarm) → AllByRecursion (λ a. IsOf b.rules a) alarms → EventsShowAlarms (length b.rules) es alarms → AllTimed (event_objects (telling b alarms es))
told_timed b [] alarms of told = tt
told_timed b (e ∷ es) alarms of told =
    let there = shown_there e.what (turn_of e (length es)) (e.number - 1) alarms (slice_get alarms (e.number - 1)) told.1 in
    let newest = newest_timed (telling b alarms (e ∷ es)) (reverse es) e there.0 (reverse-append (e ∷ []) es) told.0 there.1 (all_at (IsOf b.rules) alarms (e.number - 1) there.0 of there.1) in
    subst AllTimed (sym (next_event (telling b (before e alarms) es) (telling b alarms (e ∷ es)) next))
    (all_more (λ o. HasTime o) (event_objects (telling b (before e alarms) es)) (event_object (telling b alarms (e ∷ es)) (length (reverse es)))
    (told_timed b es (before e alarms) (of_before b.rules e.what (e.number - 1) alarms of) told.3) newest)
  where
    next : IsNext (telling b (before e alarms) es) (telling b alarms (e ∷ es))
    next = record { event = e; root = refl; rules = refl; events = reverse-append (e ∷ []) es; back = refl }

pub alarms_timed : (b : Board) → TellsEvents b → AllTimed (event_objects b)
alarms_timed b h =
    subst (λ (es : List Event). AllTimed (event_objects (record b { events = es }))) (reverse-reverse b.events)
    (told_timed b (reverse b.events) b.alarms h.of_rules h.told)

pub all_timed : (plan : Plan) (s : State) → TellsEvents (board plan s) → (place : Option Resource) → AllTimed (events_at plan s place)
all_timed plan s h (Some (FeedOf p)) = records_timed (records_of s p)
all_timed plan s h (Some AlarmFeed) = alarms_timed (board plan s) h
all_timed plan s h None = tt
all_timed plan s h (Some (Node o)) = tt
all_timed plan s h (Some About) = tt
all_timed plan s h (Some Batch) = tt
all_timed plan s h (Some Service) = tt
all_timed plan s h (Some Make) = tt
all_timed plan s h (Some (AlarmAt n)) = tt
all_timed plan s h (Some (AckOf n)) = tt
all_timed plan s h (Some (WritePointOf q)) = tt
all_timed plan s h (Some (QueryOf p)) = tt
all_timed plan s h (Some AlarmQuery) = tt

-- what holds of all holds of each
at_place : {A : Type 0} (P : A → Type 0) (xs : List A) → AllByRecursion P xs → (x : A) (k : ℕ) → k < length xs → slice_index_or xs k x ≡ x → P x
at_place P [] all x k lt e = absurd (omega (arith, lt))
at_place P (y ∷ ys) all x zero lt e = subst P e all.0
at_place P (y ∷ ys) all x (suc k) lt e = at_place P ys all.1 x k (omega (arith, lt)) e

pub contained : {A : Type 0} (P : A → Type 0) (xs : List A) → AllByRecursion P xs → (x : A) → Contains xs x → P x
contained P xs all x c = at_place P xs all x c.0 c.1 c.2
