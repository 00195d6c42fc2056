-- The feed of a place is that at its path.
use Rattle.std.proofs.Common.{◌≡◌, ℕ, zero, suc, ◌+◌, ◌-◌, ◌<◌, ◌≤◌, Bool, true, false, cond, List, [], ◌∷◌, ◌++◌, map, length, take, Option, Some, None, option_map, refl, sym, ap, ap₂, ◌∙◌, arith}
use Rattle.std.specs.Prelude.{find, option_and_then, slice_get, unwrap_or}
use Rattle.std.specs.List.{position, position_from}
use Rattle.std.specs.Str.{bytes_eq}
use Rattle.std.proofs.lemmas.Iterator.Adapters.{position_from-zero}
use Rattle.std.proofs.lemmas.List.{map-append}
use Rattle.ob_object.specs.Object.{Object}
use Rattle.ob_alarms.specs.AlarmObjects.{alarms_after, event_obj, shown_alarm, shown_event}
use Rattle.ob_alarms.specs.Changes.{State as Board, alarm_of}
use Rattle.ob_alarms.specs.Lists.{first_place}
use Rattle.ob_alarms.specs.Since.{IsKnown, AllKnown}
use Rattle.ob_alarms.specs.declared.alarm.Alarm.{Alarm}
use Rattle.ob_alarms.specs.declared.alarm.Event.{Event}
use Rattle.ob_history.specs.declared.records.Filter.{Filter}
use Rattle.ob_history.specs.declared.records.Record.{Record}
use Rattle.ob_site_rules.specs.Build.{Path}
use Rattle.ob_site_rules.specs.Entries.{record_object, empty_object, event_object, first_events, is_within}
use Rattle.ob_site_rules.specs.Places.{event_places}
use Rattle.ob_site_rules.specs.Posts.{kept_in}
use Rattle.ob_site_rules.specs.State.{Log, State, at, board}
use Rattle.ob_site_rules.specs.Watched.{passes, events_at, gone_at, gone_in}
use Rattle.ob_site_rules.specs.declared.plan.Plan.{Plan}
use Rattle.ob_site_rules.specs.declared.resource.Resource.{Resource}
use Rattle.ob_site_rules.specs.declared.resource.Resource.TheVariants.{About, Batch, Service, Make, AlarmAt, AckOf, WritePointOf, QueryOf, FeedOf, AlarmQuery, AlarmFeed, Node}
use Rattle.ob_watch.specs.Feeds.{FeedLog, no_events, feed_at, feed_of}
use Rattle.ob_site_state.specs.Feeds.{log_feed, raised_time, event_time, alarm_feed, feed_logs, AreFeeds}
use Rattle.ob_site_state.specs.Kept.{keys}

-- ---- the first place at which a test passes

from_first : {A : Type 0} (p : A → Bool) (i : ℕ) (xs : List A) → position_from p i xs ≡ option_map (λ n. n + i) (first_place p xs)
from_first p i [] = refl
from_first p i (x ∷ xs) = go (p x) (from_first p (i + 1) xs)
  where
    further : (o : Option ℕ) → option_map (λ n. n + (i + 1)) o ≡ option_map (λ n. n + i) (option_map (λ n. n + 1) o)
    further None = refl
    further (Some n) = ap Some (let same : n + (i + 1) ≡ n + 1 + i = omega arith in same)

    go : (b : Bool) → position_from p (i + 1) xs ≡ option_map (λ n. n + (i + 1)) (first_place p xs)
        → cond b (Some i) (position_from p (i + 1) xs) ≡ option_map (λ n. n + i) (cond b (Some 0) (option_map (λ n. n + 1) (first_place p xs)))
    go true later = ap Some (let same : i ≡ 0 + i = omega arith in same)
    go false later = later ∙ further (first_place p xs)

none_added : (o : Option ℕ) → option_map (λ n. n + 0) o ≡ o
none_added None = refl
none_added (Some n) = ap Some (let same : n + 0 ≡ n = omega arith in same)

pub first_is_position : {A : Type 0} (p : A → Bool) (xs : List A) → first_place p xs ≡ position p xs
first_is_position p xs = sym (position_from-zero p xs ∙ from_first p 0 xs ∙ none_added (first_place p xs))

-- ---- the log of a history, by its place

abbrev Histories : Type 0
Histories = List (Path × Option Path)

heads : {x y : Path} {xs ys : List Path} → x ∷ xs ≡ y ∷ ys → x ≡ y
heads e = cc

tails : {x y : Path} {xs ys : List Path} → x ∷ xs ≡ y ∷ ys → xs ≡ ys
tails e = cc

-- the log of a place, and what stands first under the path
pub record IsLogAt (h : Path) (n : ℕ) (ls : List (Path × Log)) : Type 0 where
  pub log : Log
  pub feed : (rest : List FeedLog) → slice_get (map (λ (l : Path × Log). log_feed l.1) ls ++ rest) n ≡ Some (log_feed log)
  pub first : at h ls ≡ Some log

log_at_place : (h : Path) (n : ℕ) (ls : List (Path × Log)) (hs : Histories) → keys ls ≡ map (λ x. x.0) hs → first_place (λ x. bytes_eq x.0 h) hs ≡ Some n → IsLogAt h n ls
log_at_place h n [] [] same e = absurd cc
log_at_place h n [] (x ∷ hs) same e = absurd cc
log_at_place h n (l ∷ ls) [] same e = absurd cc
log_at_place h n (l ∷ ls) (x ∷ hs) same e = go (bytes_eq x.0 h) refl (first_place (λ x. bytes_eq x.0 h) hs) refl e (λ k f. log_at_place h k ls hs (tails same) f)
  where
    here : bytes_eq l.0 h ≡ bytes_eq x.0 h
    here = ap (λ (p : Path). bytes_eq p h) (heads same)

    zero_is : Some 0 ≡ Some n → 0 ≡ n
    zero_is e = cc

    next_is : (k : ℕ) → Some (k + 1) ≡ Some n → suc k ≡ n
    next_is k e = let q : k + 1 ≡ n = cc in omega (arith, q)

    go : (b : Bool) → bytes_eq x.0 h ≡ b → (o : Option ℕ) → first_place (λ x. bytes_eq x.0 h) hs ≡ o → cond b (Some 0) (option_map (λ n. n + 1) o) ≡ Some n
        → ((k : ℕ) → first_place (λ x. bytes_eq x.0 h) hs ≡ Some k → IsLogAt h k ls) → IsLogAt h n (l ∷ ls)
    go true is o found e later = record {
      log = l.1;
      feed = λ rest. ap (slice_get (map (λ (l : Path × Log). log_feed l.1) (l ∷ ls) ++ rest)) (sym (zero_is e));
      first = ap (λ (b : Bool). option_map (λ (y : Path × Log). y.1) (cond b (Some l) (find (λ y. bytes_eq y.0 h) ls))) (here ∙ is);
    }
    go false is None found e later = absurd cc
    go false is (Some k) found e later =
        let rest : IsLogAt h k ls = later k found in
        record {
          log = rest.log;
          feed = λ more. ap (slice_get (map (λ (l : Path × Log). log_feed l.1) (l ∷ ls) ++ more)) (sym (next_is k e)) ∙ rest.feed more;
          first = ap (λ (b : Bool). option_map (λ (y : Path × Log). y.1) (cond b (Some l) (find (λ y. bytes_eq y.0 h) ls))) (here ∙ is) ∙ rest.first;
        }

records_pass : (f : Filter) (rs : List Record) → map (passes f) (map record_object rs) ≡ map (is_within f) (map (λ r. r.time) rs)
records_pass f [] = refl
records_pass f (r ∷ rs) = ap (λ (bs : List Bool). is_within f r.time ∷ bs) (records_pass f rs)

-- ---- the alarm events

event_there : (es : List Event) (n : ℕ) → n < length es → (e : Event) × (slice_get es n ≡ Some e)
event_there [] n lt = absurd (omega arith)
event_there (e ∷ es) zero lt = (e, refl)
event_there (e ∷ es) (suc n) lt = event_there es n (omega arith)

one_more : (es : List Event) (n : ℕ) (e : Event) → slice_get es n ≡ Some e → take (suc n) es ≡ take n es ++ e ∷ []
one_more [] n e at = absurd cc
one_more (x ∷ es) zero e at = let same : x ≡ e = cc in ap (λ (y : Event). y ∷ []) same
one_more (x ∷ es) (suc n) e at = ap (λ (l : List Event). x ∷ l) (one_more es n e at)

all_taken : (es : List Event) → take (length es) es ≡ es
all_taken [] = refl
all_taken (e ∷ es) = ap (λ (l : List Event). e ∷ l) (all_taken es)

-- an event passes by the moment at which its alarm was raised
event_passes : (f : Filter) (b : Board) (n : ℕ) (e : Event) → IsKnown b n e → passes f (event_object b n) ≡ is_within f (event_time b.alarms e)
event_passes f b n e known =
    ap (λ (o : Option Object). passes f (unwrap_or o empty_object)) known.object
    ∙ ap (λ (o : Option Alarm). is_within f (raised_time e o)) (sym known.there)

events_pass : (f : Filter) (b : Board) → AllKnown b → (n : ℕ) → n ≤ length b.events → map (passes f) (first_events b n) ≡ map (is_within f) (map (event_time b.alarms) (take n b.events))
events_pass f b known zero le = refl
events_pass f b known (suc n) le =
    let there : (e : Event) × (slice_get b.events n ≡ Some e) = event_there b.events n (omega (arith, le)) in
    let e : Event = there.0 in
    map-append (passes f) (first_events b n) (event_object b n ∷ [])
    ∙ ap₂ (λ (bs : List Bool) (c : Bool). bs ++ c ∷ []) (events_pass f b known n (omega (arith, le))) (event_passes f b n e (known n e there.1))
    ∙ sym (map-append (is_within f) (map (event_time b.alarms) (take n b.events)) (event_time b.alarms e ∷ []))
    ∙ ap (map (is_within f)) (sym (map-append (event_time b.alarms) (take n b.events) (e ∷ [])))
    ∙ ap (λ (es : List Event). map (is_within f) (map (event_time b.alarms) es)) (sym (one_more b.events n e there.1))

last_feed : (ls : List (Path × Log)) (l : FeedLog) (n : ℕ) → length ls ≡ n → slice_get (map (λ (l : Path × Log). log_feed l.1) ls ++ l ∷ []) n ≡ Some l
last_feed [] l zero e = refl
last_feed [] l (suc n) e = absurd (omega (arith, e))
last_feed (x ∷ ls) l zero e = absurd (omega (arith, e))
last_feed (x ∷ ls) l (suc n) e = last_feed ls l n (omega (arith, e))

-- room for more events makes no difference to what alarms show
object_spare : (b : Board) (k event : ℕ) → event_obj (record b { spare = k }) event ≡ event_obj b event
object_spare b k event = go (slice_get b.events event)
  where
    shown : (number : ℕ) (o : Option Alarm) → shown_alarm (record b { spare = k }) number o ≡ shown_alarm b number o
    shown number None = refl
    shown number (Some a) = refl

    go : (o : Option Event) → shown_event (record b { spare = k }) event o ≡ shown_event b event o
    go None = refl
    go (Some e) = shown e.number (alarm_of e.number (alarms_after event b))

pub spare_known : (b : Board) (k : ℕ) → AllKnown (record b { spare = k }) → AllKnown b
spare_known b k known event e at =
    let x : IsKnown (record b { spare = k }) event e = known event e at in
    record { alarm = x.alarm; there = x.there; rule = x.rule; object = sym (object_spare b k event) ∙ x.object }

-- ---- each feed

module _ (plan : Plan) (s : State) (same : keys s.logs ≡ map (λ h. h.0) plan.histories) (known : AllKnown (board plan s)) where
  -- a feed is the one of a place of the site
  record IsFeedAt (o : Option Resource) (l : FeedLog) : Type 0 where
    gone : l.gone ≡ gone_at s o
    passing : (f : Filter) → map (passes f) (events_at plan s o) ≡ map (is_within f) l.times

  by_place : (o : Option Resource) (n : ℕ) → option_and_then (feed_of plan) o ≡ Some n → IsFeedAt o (feed_at (feed_logs s) n)
  by_place None n e = absurd cc
  by_place (Some (FeedOf h)) n e =
      let l : IsLogAt h n s.logs = log_at_place h n s.logs plan.histories same (first_is_position (λ x. bytes_eq x.0 h) plan.histories ∙ e) in
      let feed : feed_at (feed_logs s) n ≡ log_feed l.log = ap (λ (o : Option FeedLog). unwrap_or o no_events) (l.feed (alarm_feed s ∷ [])) in
      record {
        gone = ap (λ (x : FeedLog). x.gone) feed ∙ sym (ap gone_in l.first);
        passing = λ f.
            ap (λ (o : Option Log). map (passes f) (map record_object (kept_in o))) l.first
            ∙ records_pass f l.log.kept
            ∙ ap (λ (x : FeedLog). map (is_within f) x.times) (sym feed);
      }
  by_place (Some AlarmFeed) n e =
      let place : length s.logs ≡ n = length_is s.logs ∙ ap length same ∙ histories_are plan.histories ∙ some_is e in
      let feed : feed_at (feed_logs s) n ≡ alarm_feed s = ap (λ (o : Option FeedLog). unwrap_or o no_events) (last_feed s.logs (alarm_feed s) n place) in
      record {
        gone = ap (λ (x : FeedLog). x.gone) feed;
        passing = λ f.
            events_pass f (board plan s) known (length s.events) (omega arith)
            ∙ ap (λ (es : List Event). map (is_within f) (map (event_time s.alarms) es)) (all_taken s.events)
            ∙ ap (λ (x : FeedLog). map (is_within f) x.times) (sym feed);
      }
    where
      length_is : (ls : List (Path × Log)) → length ls ≡ length (keys ls)
      length_is [] = refl
      length_is (l ∷ ls) = ap suc (length_is ls)

      histories_are : (hs : Histories) → length (map (λ h. h.0) hs) ≡ length hs
      histories_are [] = refl
      histories_are (h ∷ hs) = ap suc (histories_are hs)

      some_is : Some (length plan.histories) ≡ Some n → length plan.histories ≡ n
      some_is e = cc
  by_place (Some About) n e = absurd cc
  by_place (Some Batch) n e = absurd cc
  by_place (Some Service) n e = absurd cc
  by_place (Some Make) n e = absurd cc
  by_place (Some (AlarmAt number)) n e = absurd cc
  by_place (Some (AckOf number)) n e = absurd cc
  by_place (Some (WritePointOf p)) n e = absurd cc
  by_place (Some (QueryOf h)) n e = absurd cc
  by_place (Some AlarmQuery) n e = absurd cc
  by_place (Some (Node o)) n e = absurd cc

  pub are_feeds : AreFeeds plan s
  are_feeds path n e =
      let l : IsFeedAt (at path (event_places plan)) (feed_at (feed_logs s) n) = by_place (at path (event_places plan)) n e in
      record { gone = l.gone; passing = l.passing }
