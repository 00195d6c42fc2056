-- What a state answers of its feeds.
use Rattle.std.proofs.Common.{◌≡◌, ◌≢◌, ℕ, zero, suc, ◌+◌, ◌-◌, ◌<◌, ◌≤◌, Bool, true, false, not, ◌&&◌, ◌||◌, cond, List, [], ◌∷◌, ◌++◌, map, length, take, drop, Option, Some, None, option_map, refl, sym, ap, ap₂, ◌∙◌, arith}
use Rattle.std.specs.Prelude.{is_some, slice_get, unwrap_or, filter}
use Rattle.std.specs.List.{list_any}
use Rattle.ob_alarms.specs.Changes.{State as Board, alarm_of}
use Rattle.ob_alarms.specs.Since.{was_within, any_within, AllKnown}
use Rattle.ob_alarms.specs.Within as alarm_times
use Rattle.ob_alarms.specs.declared.alarm.Alarm.{Alarm}
use Rattle.ob_alarms.specs.declared.alarm.Event.{Event}
use Rattle.ob_history.specs.Records.{is_before, is_after, passes, asked}
use Rattle.ob_history.specs.declared.records.Filter.{Filter}
use Rattle.ob_history.specs.declared.records.Record.{Record}
use Rattle.ob_object.specs.declared.head.Slot.TheVariants.{Null}
use Rattle.ob_object.specs.declared.kind.Kind.TheVariants as kind
use Rattle.ob_times.specs.Times.{Instant}
use Rattle.ob_site_rules.specs.Build.{Path}
use Rattle.ob_site_rules.specs.Entries.{is_within, raised_at}
use Rattle.ob_site_rules.specs.State.{Log, State}
use Rattle.ob_site_rules.specs.Writes.{events_ever}
use Rattle.ob_watch.specs.Feeds.{FeedLog, ever, no_events, feed_at, passes_since}
use Rattle.ob_site_state.specs.Feeds.{log_feed, raised_time, event_time, alarm_feed, feed_logs}

-- ---- the feed of a place

abbrev all_feeds : List (Path × Log) → FeedLog → List FeedLog
all_feeds ls l = map (λ (x : Path × Log). log_feed x.1) ls ++ l ∷ []

there : (ls : List (Path × Log)) (n : ℕ) → n < length ls → (l : Path × Log) × (slice_get ls n ≡ Some l)
there [] n lt = absurd (omega (arith, lt))
there (l ∷ ls) zero lt = (l, refl)
there (l ∷ ls) (suc n) lt = there ls n (omega (arith, lt))

of_place : (ls : List (Path × Log)) (last : FeedLog) (n : ℕ) (l : Path × Log) → slice_get ls n ≡ Some l → slice_get (all_feeds ls last) n ≡ Some (log_feed l.1)
of_place [] last n l at = absurd cc
of_place (x ∷ ls) last zero l at = let same : x ≡ l = cc in ap (λ (y : Path × Log). Some (log_feed y.1)) same
of_place (x ∷ ls) last (suc n) l at = of_place ls last n l at

of_last : (ls : List (Path × Log)) (last : FeedLog) (n : ℕ) → n ≡ length ls → slice_get (all_feeds ls last) n ≡ Some last
of_last [] last zero is = refl
of_last [] last (suc n) is = absurd (omega (arith, is))
of_last (x ∷ ls) last zero is = absurd (omega (arith, is))
of_last (x ∷ ls) last (suc n) is = of_last ls last n (omega (arith, is))

of_none : (ls : List (Path × Log)) (last : FeedLog) (n : ℕ) → length ls < n → slice_get (all_feeds ls last) n ≡ None
of_none [] last zero lt = absurd (omega (arith, lt))
of_none [] last (suc n) lt = refl
of_none (x ∷ ls) last zero lt = absurd (omega (arith, lt))
of_none (x ∷ ls) last (suc n) lt = of_none ls last n (omega (arith, lt))

-- ---- lists

length_mapped : {A B : Type 0} (f : A → B) (xs : List A) → length (map f xs) ≡ length xs
length_mapped f [] = refl
length_mapped f (x ∷ xs) = ap suc (length_mapped f xs)

drop_mapped : {A B : Type 0} (f : A → B) (n : ℕ) (xs : List A) → drop n (map f xs) ≡ map f (drop n xs)
drop_mapped f zero xs = refl
drop_mapped f (suc n) [] = refl
drop_mapped f (suc n) (x ∷ xs) = drop_mapped f n xs

any_mapped : {A B : Type 0} (p : B → Bool) (f : A → B) (xs : List A) → list_any p (map f xs) ≡ list_any (λ x. p (f x)) xs
any_mapped p f [] = refl
any_mapped p f (x ∷ xs) = ap (λ (b : Bool). p (f x) || b) (any_mapped p f xs)

drop_nothing : {A : Type 0} (n : ℕ) → drop {A = A} n [] ≡ []
drop_nothing zero = refl
drop_nothing (suc n) = refl

from_nothing : (n : ℕ) → n - 0 ≡ n
from_nothing n = omega arith

-- ---- what a history has had

module _ (s : State) (n count : ℕ) (is : count ≡ length s.logs) where
  pub log_at : n < count → (log : Log) → ((l : Path × Log) → slice_get s.logs n ≡ Some l → log ≡ l.1) → feed_at (feed_logs s) n ≡ log_feed log
  log_at lt log known =
      let l : (l : Path × Log) × (slice_get s.logs n ≡ Some l) = there s.logs n (omega (arith, is, lt)) in
      ap (λ (o : Option FeedLog). unwrap_or o no_events) (of_place s.logs (alarm_feed s) n l.0 l.1)
      ∙ ap log_feed (sym (known l.0 l.1))

  pub ever_of_log : n < count → (result : ℕ) → ((l : Path × Log) → slice_get s.logs n ≡ Some l → result ≡ events_ever l.1) → result ≡ ever (feed_at (feed_logs s) n)
  ever_of_log lt result known =
      let l : (l : Path × Log) × (slice_get s.logs n ≡ Some l) = there s.logs n (omega (arith, is, lt)) in
      known l.0 l.1
      ∙ ap (λ (k : ℕ). l.0.1.gone + k) (sym (length_mapped (λ (r : Record). r.time) l.0.1.kept))
      ∙ ap (λ (o : Option FeedLog). ever (unwrap_or o no_events)) (sym (of_place s.logs (alarm_feed s) n l.0 l.1))

  -- ---- and the alarms

  pub alarms_at : n ≡ count → feed_at (feed_logs s) n ≡ alarm_feed s
  alarms_at same = ap (λ (o : Option FeedLog). unwrap_or o no_events) (of_last s.logs (alarm_feed s) n (same ∙ is))

  pub ever_of_alarms : n ≡ count → (es : List Event) → es ≡ s.events → length es ≡ ever (feed_at (feed_logs s) n)
  ever_of_alarms same es are =
      let none : length s.events ≡ 0 + length s.events = omega arith in
      ap length are
      ∙ none
      ∙ ap (λ (k : ℕ). 0 + k) (sym (length_mapped (event_time s.alarms) s.events))
      ∙ ap ever (sym (alarms_at same))

  pub passes_of_alarms : n ≡ count → (f : Filter) (given : ℕ) (b : Board) → b.alarms ≡ s.alarms → b.events ≡ s.events
      → list_any (is_within f) (drop given (map (event_time b.alarms) b.events)) ≡ passes_since (feed_at (feed_logs s) n) given f
  passes_of_alarms same f given b alarms events =
      ap₂ (λ (xs : List Alarm) (es : List Event). list_any (is_within f) (drop given (map (event_time xs) es))) alarms events
      ∙ ap (λ (k : ℕ). list_any (is_within f) (drop k (map (event_time s.alarms) s.events))) (sym (from_nothing given))
      ∙ ap (λ (l : FeedLog). passes_since l given f) (sym (alarms_at same))

  -- ---- and a place behind all

  nothing_at : count ≤ n → n ≢ count → feed_at (feed_logs s) n ≡ no_events
  nothing_at le ne = ap (λ (o : Option FeedLog). unwrap_or o no_events) (of_none s.logs (alarm_feed s) n (omega (arith, is, le, ne)))

  pub none_ever : count ≤ n → n ≢ count → 0 ≡ ever (feed_at (feed_logs s) n)
  none_ever le ne = ap ever (sym (nothing_at le ne))

  pub none_passes : count ≤ n → n ≢ count → (given : ℕ) (f : Filter) → false ≡ passes_since (feed_at (feed_logs s) n) given f
  none_passes le ne given f = ap (list_any (is_within f)) (sym (drop_nothing (given - 0))) ∙ ap (λ (l : FeedLog). passes_since l given f) (sym (nothing_at le ne))

  pub none_gone : count ≤ n → 0 ≡ (feed_at (feed_logs s) n).gone
  none_gone le = go s.logs (alarm_feed s) n refl (omega (arith, is, le))
    where
      go : (ls : List (Path × Log)) (last : FeedLog) (n : ℕ) → last.gone ≡ 0 → length ls ≤ n → 0 ≡ (unwrap_or (slice_get (all_feeds ls last) n) no_events).gone
      go [] last zero none le = sym none
      go [] last (suc n) none le = refl
      go (x ∷ ls) last zero none le = absurd (omega (arith, le))
      go (x ∷ ls) last (suc n) none le = go ls last n none (omega (arith, le))

-- ---- which events pass

-- a record passes by its time
time_passes : (f : Filter) (t : Instant) (r : Record) → r.time ≡ t → passes f r ≡ is_within f t
time_passes f t r is =
    let s : Record = record { time = t; kind = kind.Abstime; slot = Null } in
    let early : is_before f.start r ≡ is_before f.start s = elim f.start as (λ o. is_before o r ≡ is_before o s) [ None ↦ refl | Some u ↦ ap (λ (x : Instant). let y : Record = record { time = x; kind = kind.Abstime; slot = Null } in is_before (Some u) y) is ] in
    let late : is_after f.end r ≡ is_after f.end s = elim f.end as (λ o. is_after o r ≡ is_after o s) [ None ↦ refl | Some u ↦ ap (λ (x : Instant). let y : Record = record { time = x; kind = kind.Abstime; slot = Null } in is_after (Some u) y) is ] in
    ap₂ (λ (a b : Bool). not a && not b) early late

any_asked : (f : Filter) (rs : List Record) → is_some (option_map (λ (r : Record). r.time) (slice_get (take 1 (filter (passes f) rs)) 0)) ≡ list_any (is_within f) (map (λ r. r.time) rs)
any_asked f [] = refl
any_asked f (r ∷ rs) = go (passes f r) (sym (time_passes f r.time r refl)) (any_asked f rs)
  where
    first : List Record → Bool
    first rs = is_some (option_map (λ (r : Record). r.time) (slice_get (take 1 rs) 0))

    go : (b : Bool) → is_within f r.time ≡ b → first (filter (passes f) rs) ≡ list_any (is_within f) (map (λ r. r.time) rs)
        → first (cond b (r ∷ filter (passes f) rs) (filter (passes f) rs)) ≡ (is_within f r.time || list_any (is_within f) (map (λ r. r.time) rs))
    go true is later = sym (ap (λ (b : Bool). b || list_any (is_within f) (map (λ r. r.time) rs)) is)
    go false is later = later ∙ sym (ap (λ (b : Bool). b || list_any (is_within f) (map (λ r. r.time) rs)) is)

-- the first record that is asked for tells whether one passes
pub one_tells : (f g : Filter) (n : ℕ) (kept found : List Record) (time : Option Instant) → g.limit ≡ 1 → g.start ≡ f.start → g.end ≡ f.end → found ≡ asked g (drop n kept)
    → time ≡ option_map (λ r. r.time) (slice_get found 0) → is_some time ≡ list_any (is_within f) (drop n (map (λ r. r.time) kept))
one_tells f g n kept found time one start end are is =
    ap is_some (is ∙ ap (λ (rs : List Record). option_map (λ (r : Record). r.time) (slice_get rs 0)) (are ∙ ap (λ (k : ℕ). take k (filter (passes g) (drop n kept))) one))
    ∙ any_asked g (drop n kept)
    ∙ ap₂ (λ (a b : Option Instant). let h : Filter = record { limit = g.limit; start = a; end = b } in list_any (is_within h) (map (λ r. r.time) (drop n kept))) start end
    ∙ ap (list_any (is_within f)) (sym (drop_mapped (λ (r : Record). r.time) n kept))

-- an alarm passes by when it was raised
alarm_passes : (f : Filter) (a : Alarm) → was_within f.start f.end (Some a) ≡ is_within f (raised_at a)
alarm_passes f a =
    let s : Record = record { time = raised_at a; kind = kind.Abstime; slot = Null } in
    let early : alarm_times.is_before f.start a ≡ is_before f.start s = elim f.start as (λ o. alarm_times.is_before o a ≡ is_before o s) [ None ↦ refl | Some u ↦ refl ] in
    let late : alarm_times.is_after f.end a ≡ is_after f.end s = elim f.end as (λ o. alarm_times.is_after o a ≡ is_after o s) [ None ↦ refl | Some u ↦ refl ] in
    ap₂ (λ (b c : Bool). not b && not c) early late

pub events_tell : (f : Filter) (b : Board) (given : ℕ) → AllKnown b → any_within f.start f.end given b ≡ list_any (is_within f) (drop given (map (event_time b.alarms) b.events))
events_tell f b given known =
    go (drop given b.events) (λ n e at. (let k = known (given + n) e (sym (later given b.events n) ∙ at) in (k.alarm, k.there)))
    ∙ sym (any_mapped (is_within f) (event_time b.alarms) (drop given b.events))
    ∙ ap (list_any (is_within f)) (sym (drop_mapped (event_time b.alarms) given b.events))
  where
    later : (from : ℕ) (es : List Event) (n : ℕ) → slice_get (drop from es) n ≡ slice_get es (from + n)
    later zero es n = ap (slice_get es) (let same : n ≡ 0 + n = omega arith in same)
    later (suc from) [] n = refl
    later (suc from) (e ∷ es) n = later from es n ∙ ap (slice_get (e ∷ es)) (let same : suc (from + n) ≡ suc from + n = omega arith in same)

    one : (e : Event) (o : Option Alarm) (a : Alarm) → o ≡ Some a → was_within f.start f.end o ≡ is_within f (raised_time e o)
    one e o a is = ap (was_within f.start f.end) is ∙ alarm_passes f a ∙ ap (λ (o : Option Alarm). is_within f (raised_time e o)) (sym is)

    go : (es : List Event) → ((n : ℕ) (e : Event) → slice_get es n ≡ Some e → (a : Alarm) × (alarm_of e.number b.alarms ≡ Some a))
        → list_any (λ e. was_within f.start f.end (alarm_of e.number b.alarms)) es ≡ list_any (λ e. is_within f (event_time b.alarms e)) es
    go [] known = refl
    go (e ∷ es) known =
        let a : (a : Alarm) × (alarm_of e.number b.alarms ≡ Some a) = known 0 e refl in
        ap₂ (λ (x y : Bool). x || y) (one e (alarm_of e.number b.alarms) a.0 a.1) (go es (λ n x at. known (suc n) x at))
