-- The laws of the watches of the whole site, over every legal history from any sound state.
use Rattle.std.specs.Prelude.{◌≡◌, ◌≢◌, ℕ, ◌+◌, ◌^◌, ◌<◌, List, [], ◌∷◌, ◌++◌, length, reverse, Option, Some, None}
use Rattle.std.specs.List.{AllByRecursion}
use Rattle.ob_machine.specs.History.{left_by, after, IsLegal}
use Rattle.ob_machine.specs.declared.call.Entry.{Entry}
use Rattle.ob_object.specs.Object.{Object}
use Rattle.ob_history.specs.declared.records.Filter.{Filter}
use Rattle.ob_alarms.specs.Changes.{State as Board}
use Rattle.ob_alarms.specs.Soundness.{EventsShowAlarms, AtMostOne}
use Rattle.ob_watching.specs.Operations.{Lists}
use Rattle.ob_watching.specs.Sites.{Site}
use Rattle.ob_watching.specs.Tables.{lookup}
use Rattle.ob_watching.specs.Watches.{Object as ObjectItem, Feed as FeedItem, Tracked, Item, Content, Reading, Watch, count, reading, IsSound}
use Rattle.ob_watching.specs.Clients.{calls, replay, watched}
use Rattle.ob_watching.specs.Laws.{Begins, Ends, Holds, WasMade, IsMake, IsOn, IsNotFound, whole_at, standing_after}
use Rattle.ob_watching.specs.Laws as watches
use Rattle.ob_site_rules.specs.declared.request.Request.{Request}
use Rattle.ob_site_rules.specs.Locating.{locate}
use Rattle.ob_site_rules.specs.Build.{Text, Path}
use Rattle.ob_site_rules.specs.declared.plan.Plan.{Plan}
use Rattle.ob_site_rules.specs.State.{Log, State, at, board}
use Rattle.ob_site_rules.specs.declared.resource.Resource.{Resource}
use Rattle.ob_site_rules.specs.declared.resource.Resource.TheVariants.{FeedOf}
use Rattle.ob_site_rules.specs.Places.{event_places}
use Rattle.ob_site_rules.specs.Sites.{SiteState, site, step}
use Rattle.ob_site_rules.specs.Watched.{feed_there}

-- what a request at a moment leaves of the whole site, and the reply
abbrev pub acts : SiteState → Request → ℕ → SiteState × Object
acts = step locate

-- the site of a plan, as its watches see it
abbrev pub of_plan : Plan → Site
of_plan plan = site locate plan

-- a request of this site and its answer, as it stands in a history
abbrev pub Call : Type 0
Call = Entry Request Object

-- The alarms tell their events: each event shows in the alarms as it left them; each alarm is of a rule that is there, and no
-- rule has two alarms in alarm.
pub record TellsEvents (b : Board) : Type 0 where
  pub of_rules : AllByRecursion (λ a. a.rule < length b.rules) b.alarms
  pub told : EventsShowAlarms (length b.rules) (reverse b.events) b.alarms
  pub one : AtMostOne (length b.rules) b.alarms

-- Numbers of watches rise and stay below the next one, no watch has an href twice, each history is within its capacity; and the
-- alarms tell their events.
pub record IsSoundSite (st : SiteState) : Type 0 where
  pub of_watches : IsSound (of_plan st.plan) st.world
  pub of_alarms : TellsEvents (board st.plan st.world.site)

-- a state that a legal history leads to is sound, of the same plan, and is what the watches' step leaves
abbrev pub Stays : Type 0
Stays = (start : SiteState) → IsSoundSite start → (es : List Call) →
    (after acts start es ≡ record { plan = start.plan; world = watches.after (of_plan start.plan) start.world es }) × IsSoundSite (after acts start es)

-- A client that replays the calls on a watch from its make on, or from any pollRefresh on, holds after each answered
-- poll what is watched.
abbrev pub ClientsHold : ℕ → Type 0
ClientsHold n = n < 2 ^ 64 → (start : SiteState) → IsSoundSite start →
    (before part : List Call) → IsLegal acts start (before ++ part) →
    Begins (of_plan start.plan) n part → Ends (of_plan start.plan) n part →
    Holds (of_plan start.plan) n (after acts start before).world part

-- A watch that was made and is gone, deleted, lapsed or given way, never comes back; no make answers with its number again, and
-- each request for it is answered with BadUriErr or for want of memory.
abbrev pub GoneForGood : ℕ → Type 0
GoneForGood n = n < 2 ^ 64 → (start : SiteState) → IsSoundSite start →
    (before later : List Call) → IsLegal acts start (before ++ later) →
    WasMade (of_plan start.plan) start.world n before → lookup n (after acts start before).world.watches ≡ None →
    (lookup n (after acts start (before ++ later)).world.watches ≡ None)
    × AllByRecursion (λ e. (IsMake (of_plan start.plan) n e → ⊥) × (IsOn (of_plan start.plan) n e → IsNotFound (of_plan start.plan) e.answer)) later

-- A request for one watch leaves every other as it was; but an answered one drops those that have lapsed.
abbrev pub OthersStay : ℕ → Type 0
OthersStay n = (st : SiteState) → IsSoundSite st → (e : Call) → IsOn (of_plan st.plan) n e →
    (k : ℕ) → k ≢ n →
    let next = (left_by acts st e.request e.moment e.answer).world in
    lookup k next.watches ≡ standing_after (of_plan st.plan) e.answer next.time (lookup k st.world.watches)

-- how many records a history keeps at most, if not all
abbrev pub capacity_in : Option Log → Option ℕ
capacity_in None = None
capacity_in (Some l) = l.capacity

-- the feed keeps all its events: of a history, it has no capacity
abbrev pub KeepsAll : State → Option Resource → Type 0
KeepsAll s (Some (FeedOf h)) = capacity_in (at h s.logs) ≡ None
KeepsAll s place = Unit {0}

-- of a feed the site keeps all events
abbrev pub KeepsAllOf : (plan : Plan) → State → Path → Tracked (of_plan plan) → Type 0
KeepsAllOf plan s path (ObjectItem changed) = Unit {0}
KeepsAllOf plan s path (FeedItem bounds given) = KeepsAll s (at path (event_places plan))

-- Where the feeds of a watch have no capacity, what a client holds equals as a list what a pollRefresh would give:
-- each object, and each feed with all its events that pass, each once.
abbrev pub ClientsHoldAll : ℕ → Type 0
ClientsHoldAll n = n < 2 ^ 64 → (start : SiteState) → IsSoundSite start →
    (before part : List Call) → IsLegal acts start (before ++ part) →
    Begins (of_plan start.plan) n part → Ends (of_plan start.plan) n part →
    let end = watches.after (of_plan start.plan) (after acts start before).world part in
    (v : Watch (of_plan start.plan)) → lookup n end.watches ≡ Some v →
    AllByRecursion (λ item. KeepsAllOf start.plan start.world.site item.path item.tracked) v.items →
    Some (replay (of_plan start.plan) (calls (of_plan start.plan) n part)) ≡ watched (of_plan start.plan) n end

-- each object, and each feed that keeps all its events, is held as a pollRefresh would give it, whatever the others keep
abbrev pub EachAsWatched : (plan : Plan) → (start now : State) → List (Item (of_plan plan)) → List (Reading (of_plan plan)) → Type 0
EachAsWatched plan start now [] [] = Unit {0}
EachAsWatched plan start now [] (r ∷ rs) = ⊥
EachAsWatched plan start now (item ∷ items) [] = ⊥
EachAsWatched plan start now (item ∷ items) (r ∷ rs) =
    (KeepsAllOf plan start item.path item.tracked → r ≡ reading (of_plan plan) now item) × EachAsWatched plan start now items rs

-- A feed with a capacity doesn't take that from the other items of its watch.
abbrev pub ClientsHoldEach : ℕ → Type 0
ClientsHoldEach n = n < 2 ^ 64 → (start : SiteState) → IsSoundSite start →
    (before part : List Call) → IsLegal acts start (before ++ part) →
    Begins (of_plan start.plan) n part → Ends (of_plan start.plan) n part →
    let end = watches.after (of_plan start.plan) (after acts start before).world part in
    (v : Watch (of_plan start.plan)) → lookup n end.watches ≡ Some v →
    EachAsWatched start.plan start.world.site end.site v.items (replay (of_plan start.plan) (calls (of_plan start.plan) n part))

-- A filter without a bound has neither a start nor an end. Its limit says nothing: a feed that is asked for with one is refused.
abbrev pub HasNoBound : Filter → Type 0
HasNoBound f = (f.start ≡ None) × (f.end ≡ None)

-- The events that are held of a feed and those that were missed are together as many as it has had since then, when it was given
-- whole.
pub record HoldsAllSince (plan : Plan) (now then : State) (path : Path) (c : Content (of_plan plan)) : Type 0 where
  pub held : List Object
  pub missed : ℕ
  pub content : c ≡ Lists (feed_there plan path) missed held
  pub number : length held + missed + (of_plan plan).gone then path ≡ count (of_plan plan) now path

-- so it is of each feed that is watched through a filter without a bound
abbrev pub HoldsAllOf : (plan : Plan) → (now then : State) → Path → Tracked (of_plan plan) → Content (of_plan plan) → Type 0
HoldsAllOf plan now then path (ObjectItem changed) c = Unit {0}
HoldsAllOf plan now then path (FeedItem bounds given) c = HasNoBound bounds → HoldsAllSince plan now then path c

-- of each item of a watch, `when` being the site as it was when an href was last given whole
abbrev pub EachHoldsAll : (plan : Plan) → (now : State) → (when : Text → State) → List (Item (of_plan plan)) → List (Reading (of_plan plan)) → Type 0
EachHoldsAll plan now when [] [] = Unit {0}
EachHoldsAll plan now when [] (r ∷ rs) = ⊥
EachHoldsAll plan now when (item ∷ items) [] = ⊥
EachHoldsAll plan now when (item ∷ items) (r ∷ rs) =
    HoldsAllOf plan now (when item.text) item.path item.tracked r.content × EachHoldsAll plan now when items rs

-- Of a feed through a filter without a bound, of a history's records or of alarms, the events that a client holds and those that
-- it was told to have missed are together as many as there were since an add or a pollRefresh last gave the feed whole.
abbrev pub ClientsHoldAllSince : ℕ → Type 0
ClientsHoldAllSince n = n < 2 ^ 64 → (start : SiteState) → IsSoundSite start →
    (before part : List Call) → IsLegal acts start (before ++ part) →
    Begins (of_plan start.plan) n part → Ends (of_plan start.plan) n part →
    let began = (after acts start before).world in
    let end = watches.after (of_plan start.plan) began part in
    (v : Watch (of_plan start.plan)) → lookup n end.watches ≡ Some v →
    EachHoldsAll start.plan end.site (whole_at (of_plan start.plan) n began part (λ _. began.site)) v.items
    (replay (of_plan start.plan) (calls (of_plan start.plan) n part))
