-- What is asked of watches, and what can be watched. Source: oBIX 1.1, chapter 12 (Watches).
use Rattle.std.specs.Prelude.{ℕ, ℤ, pos, Bool, true, false, cond, not, ◌&&◌, ◌||◌, nat_le, codes, List, [], ◌∷◌, map, Option, Some, None, unwrap_or, option_map, option_and_then, Result, Ok, Err}
use Rattle.std.specs.Str.{bytes_eq}
use Rattle.std.specs.Ordering.{int_eq}
use Rattle.ob_times.specs.Times.{Instant}
use Rattle.ob_values.specs.declared.value.Value.TheVariants as value
use Rattle.ob_values.specs.declared.verb.Verb.{Verb}
use Rattle.ob_values.specs.declared.verb.Verb.TheVariants.{Get, Put, Post}
use Rattle.ob_object.specs.declared.kind.Kind.{Kind}
use Rattle.ob_object.specs.declared.kind.Kind.TheVariants as kind
use Rattle.ob_object.specs.declared.head.Slot.{Slot}
use Rattle.ob_object.specs.declared.head.Slot.TheVariants.{Null, Is}
use Rattle.ob_object.specs.Kinds.{same_kind}
use Rattle.ob_object.specs.Object.{Object, empty_head, children}
use Rattle.ob_object.specs.Paths.{is_path}
use Rattle.ob_history.specs.declared.records.Filter.{Filter}
use Rattle.ob_history.specs.Filters.{filter_of}
use Rattle.ob_watching.specs.Operations.{Operation, Look, Renew, Add, Remove, PollChanges, PollRefresh, Delete, Refuse, Target, Itself, Nowhere, NewWatch, OneWatch, Found, ObjectAt, FeedAt, NotFound}
use Rattle.ob_site_rules.specs.declared.request.Request.{Request}
use Rattle.ob_site_rules.specs.declared.watch_part.WatchPart.TheVariants as parts
use Rattle.ob_site_rules.specs.Build.{Text, Path, child, leaf, word}
use Rattle.ob_site_rules.specs.Paths.{below, make_path, watch_part}
use Rattle.ob_site_rules.specs.State.{Log, State, at, board}
use Rattle.ob_site_rules.specs.declared.fault.Fault.{Fault}
use Rattle.ob_site_rules.specs.declared.fault.Fault.TheVariants.{LeaseOutOfRange, NoSuchObject, NotSupported, NotWatchable, OtherKind, OtherShape}
use Rattle.ob_site_rules.specs.declared.plan.Plan.{Plan}
use Rattle.ob_site_rules.specs.declared.watch_part.WatchPart.{WatchPart}
use Rattle.ob_site_rules.specs.Entries.{record_object, event_objects, is_within}
use Rattle.ob_site_rules.specs.declared.resource.Resource.{Resource}
use Rattle.ob_site_rules.specs.declared.resource.Resource.TheVariants.{FeedOf, AlarmFeed, Node}
use Rattle.ob_site_rules.specs.Places.{place_at}
use Rattle.ob_site_rules.specs.Writes.{given_by}
use Rattle.ob_site_rules.specs.Posts.{is_obj, records_of}
use Rattle.ob_site_rules.specs.Actions.{is_post, uri_of, is_of_watch}

-- what is asked of a watch of this site
abbrev pub WatchOperation : Type 0
WatchOperation = Operation Text (Option Object) WatchPart Fault

-- whom a request of this site is for
abbrev pub SiteTarget : Type 0
SiteTarget = Target Text (Option Object) WatchPart Fault

-- what an asked text of this site names
abbrev pub SiteFound : Type 0
SiteFound = Found Path Filter Fault

-- an asked text, and the input beside it
abbrev pub Asked : Type 0
Asked = Text × Option Object

-- the uris of a list, each with its child `in`, if all are uris with a value
abbrev pub asked_items : List Object → Option (List Asked)
asked_items [] = Some []
asked_items (o ∷ os) = option_and_then (λ text. option_map (λ rest. (text, child (codes "in") o) ∷ rest) (asked_items os)) (uri_of o)

-- what a list of hrefs asks for, if all of it can be read; without a list nothing
abbrev pub asked_in : Option Object → Option (List Asked)
asked_in None = Some []
asked_in (Some hrefs) = cond (same_kind hrefs.head.kind kind.List) (asked_items (children hrefs)) None

-- whether a slot is null
abbrev pub is_null : Slot → Bool
is_null Null = true
is_null _ = false

-- what a WatchIn asks for; none, or a null obj, asks for nothing
abbrev pub asked_by : Option Object → Option (List Asked)
asked_by None = Some []
asked_by (Some o) = cond (not (is_obj o)) None (cond (is_null o.head.slot) (Some []) (asked_in (child (codes "hrefs") o)))

-- an operation on what is asked for, or a refusal
abbrev pub on_asked : (List Asked → WatchOperation) → Option (List Asked) → WatchOperation
on_asked f None = Refuse OtherShape
on_asked f (Some asked) = f asked

-- Invoke of the op of a watch
abbrev pub call_of_watch : WatchPart → Option Object → WatchOperation
call_of_watch parts.Add body = on_asked Add (asked_by body)
call_of_watch parts.Remove body = on_asked (λ asked. Remove (map (λ a. a.0) asked)) (asked_by body)
call_of_watch parts.PollChanges body = PollChanges
call_of_watch parts.PollRefresh body = PollRefresh
call_of_watch parts.Delete body = Delete
call_of_watch _ body = Refuse NotSupported

-- Write to the lease of a watch; nothing else of it is written
abbrev pub put_to_watch : WatchPart → Option Object → WatchOperation
put_to_watch parts.Lease body = Renew body
put_to_watch _ body = Refuse NotSupported

-- what a verb at a part of a watch asks for
abbrev pub operation : Verb → WatchPart → Option Object → WatchOperation
operation Get part body = Look part
operation Put part body = put_to_watch part body
operation Post part body = call_of_watch part body

-- a request to a watch, or else to the site itself
abbrev pub target_part : Request → Option (ℕ × WatchPart) → SiteTarget
target_part r None = Itself
target_part r (Some w) = OneWatch w.0 (operation r.verb w.1 r.body)

-- whom a request to a path is for
abbrev pub target_at : Plan → Request → Option Path → SiteTarget
target_at plan r None = Nowhere
target_at plan r (Some p) = cond (bytes_eq p (make_path plan) && is_post r.verb) NewWatch (target_part r (watch_part plan p))

-- a second to a day, without months
abbrev pub lease_within : ℤ → ℤ → Result ℕ Fault
lease_within months (pos n) = cond (int_eq months (pos 0) && (nat_le 1_000_000_000 n && nat_le n 86_400_000_000_000)) (Ok n) (Err LeaseOutOfRange)
lease_within months _ = Err LeaseOutOfRange

-- the lease that a slot gives, if it is one
abbrev pub lease_of : Slot → Result ℕ Fault
lease_of (Is (value.Reltime r)) = lease_within r.months r.nanos
lease_of _ = Err LeaseOutOfRange

-- the lease that a body gives, in nanoseconds
abbrev pub lease_asked : State → Option Object → Result ℕ Fault
lease_asked s None = Err OtherShape
lease_asked s (Some o) = cond (same_kind o.head.kind kind.Reltime) (lease_of (given_by s o).slot) (Err OtherKind)

-- whether an object, if there is one, has a value
abbrev pub has_value : Option Object → Bool
has_value None = false
has_value (Some o) = is_given o.head.slot
  where
    is_given : Slot → Bool
    is_given (Is v) = true
    is_given _ = false

-- whether the input of a feed sets a limit; a null obj sets nothing
abbrev pub sets_limit : Option Object → Bool
sets_limit None = false
sets_limit (Some o) = not (is_null o.head.slot) && has_value (child (codes "limit") o)

-- a feed through a filter, unless a limit is set or the input is no filter
abbrev pub feed_if : Bool → Path → Option Filter → SiteFound
feed_if true p f = NotFound OtherShape
feed_if false p None = NotFound OtherShape
feed_if false p (Some f) = FeedAt p f

-- a feed through the filter that its input is, which has no limit
abbrev pub feed_with : Path → Option Object → SiteFound
feed_with p input = feed_if (sets_limit input) p (filter_of input)

-- whether a kind is op or feed
abbrev pub is_call_kind : Kind → Bool
is_call_kind k = same_kind k kind.Op || same_kind k kind.Feed

-- nodes but ops and feeds are watched, and the feeds of histories and of the alarm subject
abbrev pub found_place : Path → Option Object → Resource → SiteFound
found_place p input (Node o) = cond (is_call_kind o.head.kind) (NotFound NotWatchable) (ObjectAt p)
found_place p input (FeedOf h) = feed_with p input
found_place p input AlarmFeed = feed_with p input
found_place p input _ = NotFound NotWatchable

-- a watch that stands is there, but isn't watched
abbrev pub found_at : Plan → List ℕ → Path → Option Object → Option Resource → SiteFound
found_at plan numbers p input (Some place) = found_place p input place
found_at plan numbers p input None = NotFound (cond (is_of_watch plan numbers p) NotWatchable NoSuchObject)

-- what stands at the path that an asked text leads to, if it leads to one
abbrev pub found_located : Plan → State → List ℕ → Option Object → Option Path → SiteFound
found_located plan s numbers input None = NotFound NoSuchObject
found_located plan s numbers input (Some p) = found_at plan numbers p input (place_at plan s p)

-- the kept records of a history, or the alarm events, as objects
abbrev pub events_at : Plan → State → Option Resource → List Object
events_at plan s (Some (FeedOf h)) = map record_object (records_of s h)
events_at plan s (Some AlarmFeed) = event_objects (board plan s)
events_at plan s _ = []

-- how many records rolled off a log, if there is one
abbrev pub gone_in : Option Log → ℕ
gone_in None = 0
gone_in (Some l) = l.gone

-- how many events of a feed rolled off; alarm events don't
abbrev pub gone_at : State → Option Resource → ℕ
gone_at s (Some (FeedOf h)) = gone_in (at h s.logs)
gone_at s _ = 0

-- the time of a slot that is an abstime
abbrev pub time_in : Slot → Option Instant
time_in (Is (value.Abstime t)) = Some t
time_in _ = None

-- an event passes by its timestamp: that of the record, or of the alarm and not of its later transition
abbrev pub passes : Filter → Object → Bool
passes f event = unwrap_or (option_map (is_within f) (option_and_then (λ o. time_in o.head.slot) (child (codes "timestamp") event))) false

-- a feed without events
abbrev pub feed_of : Text → Object
feed_of contract = leaf (record (empty_head kind.Feed) { of = word contract })

-- whether a path is that of the feed of alarms
abbrev pub is_alarm_feed : Plan → Path → Bool
is_alarm_feed plan p = is_path p (option_map (λ s. below s (codes "feed")) plan.subject)

-- the feed at a path, as a reply begins with it: of alarms, or of a history's records
abbrev pub feed_there : Plan → Path → Object
feed_there plan p = feed_of (cond (is_alarm_feed plan p) (codes "obix:Alarm") (codes "obix:HistoryRecord"))
