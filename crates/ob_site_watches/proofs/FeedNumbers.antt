-- The feed that stands at a computed path has a number.
use Rattle.std.proofs.Common.{◌≡◌, ℕ, ◌+◌, ◌<◌, Bool, true, false, cond, List, [], ◌∷◌, ◌++◌, length, Option, Some, None, option_map, refl, sym, ap, ◌∙◌}
use Rattle.std.specs.Prelude.{codes, find, option_and_then, position, slice_get}
use Rattle.std.specs.List.{flat_map}
use Rattle.std.specs.Str.{bytes_eq}
use Rattle.std.proofs.lemmas.Slice.Eq.{bytes_eq-Decides}
use Rattle.ob_alarms.specs.Lists.{first_place}
use Rattle.ob_alarms.specs.States.{needs_ack}
use Rattle.ob_alarms.specs.declared.alarm.Alarm.{Alarm}
use Rattle.ob_alarms.specs.declared.rule.Rule.{Rule}
use Rattle.ob_contracts.specs.Inherit.{or_else}
use Rattle.ob_plain_state.proofs.Placed.{at-append}
use Rattle.ob_site_rules.specs.Build.{Path}
use Rattle.ob_site_rules.specs.Paths.{below, ack_path}
use Rattle.ob_site_rules.specs.State.{State, at, board}
use Rattle.ob_site_rules.specs.declared.plan.Plan.{Plan}
use Rattle.ob_site_rules.specs.Places.{alarm_places, computed_places, event_places, fixed_places, history_places, point_places, subject_places}
use Rattle.ob_site_rules.specs.declared.resource.Resource.{Resource}
use Rattle.ob_site_rules.specs.declared.resource.Resource.TheVariants.{About, AckOf, AlarmAt, AlarmFeed, AlarmQuery, Batch, FeedOf, Make, Node, QueryOf, Service, WritePointOf}
use Rattle.ob_site_state.proofs.FeedPaths.{first_is_position}
use Rattle.ob_watch.specs.Feeds.{feed_of, feed_place}

abbrev Entries : Type 0
Entries = List (Path × Resource)

-- a place that is that of a feed
abbrev is_feed : Resource → Bool
is_feed (FeedOf h) = true
is_feed AlarmFeed = true
is_feed _ = false

-- the feed at a path has a number, where this is what stands there
abbrev pub HasNumber : Plan → Path → Resource → Type 0
HasNumber plan p (FeedOf h) = (n : ℕ) × (feed_place plan p ≡ Some n)
HasNumber plan p AlarmFeed = (n : ℕ) × (feed_place plan p ≡ Some n)
HasNumber plan p _ = Unit {0}

no_feed : (plan : Plan) (p : Path) (place : Resource) → is_feed place ≡ false → HasNumber plan p place
no_feed plan p (FeedOf h) e = absurd cc
no_feed plan p AlarmFeed e = absurd cc
no_feed plan p About e = tt
no_feed plan p Batch e = tt
no_feed plan p Service e = tt
no_feed plan p Make e = tt
no_feed plan p (AlarmAt n) e = tt
no_feed plan p (AckOf n) e = tt
no_feed plan p (WritePointOf q) e = tt
no_feed plan p (QueryOf h) e = tt
no_feed plan p AlarmQuery e = tt
no_feed plan p (Node o) e = tt

-- no place of these is that of a feed
record HasNone (es : Entries) : Type 0 where
  free : (p : Path) (place : Resource) → at p es ≡ Some place → is_feed place ≡ false

none_more : (a : Path) (r : Resource) (es : Entries) → is_feed r ≡ false → HasNone es → HasNone ((a, r) ∷ es)
none_more a r es own others = record { free = λ p place e. go p place (bytes_eq a p) e }
  where
    go : (p : Path) (place : Resource) (b : Bool) → option_map (λ (x : Path × Resource). x.1) (cond b (Some (a, r)) (find (λ (x : Path × Resource). bytes_eq x.0 p) es)) ≡ Some place → is_feed place ≡ false
    go p place true e =
        let same : r ≡ place = cc in
        ap is_feed (sym same) ∙ own
    go p place false e = others.free p place e

none_there : (p : Path) (place : Resource) → at p [] ≡ Some place → is_feed place ≡ false
none_there p place e = absurd cc

none_in_none : HasNone []
none_in_none = record { free = none_there }

fixed_none : (plan : Plan) → HasNone (fixed_places plan)
fixed_none plan = none_more _ About _ refl (none_more _ Batch _ refl (none_more _ Service _ refl (none_more _ Make _ refl none_in_none)))

points_none : (ps : List Path) → HasNone (flat_map (λ p. (below p (codes "writePoint"), WritePointOf p) ∷ []) ps)
points_none [] = none_in_none
points_none (p ∷ ps) = none_more _ (WritePointOf p) _ refl (points_none ps)

alarms_none : (plan : Plan) (rules : List Rule) (n : ℕ) (alarms : List Alarm) → HasNone (alarm_places plan rules n alarms)
alarms_none plan rules n [] = none_in_none
alarms_none plan rules n (a ∷ alarms) = none_more _ (AlarmAt n) _ refl (go (needs_ack (slice_get rules a.rule)) (alarms_none plan rules (n + 1) alarms))
  where
    go : (b : Bool) → HasNone (alarm_places plan rules (n + 1) alarms) → HasNone (cond b ((ack_path plan n, AckOf n) ∷ []) [] ++ alarm_places plan rules (n + 1) alarms)
    go true rest = none_more _ (AckOf n) _ refl rest
    go false rest = rest

-- the feed of a history has the history's number
first_history : (p h : Path) (hs : List (Path × Option Path)) → at p (flat_map (λ x. (below x.0 (codes "query"), QueryOf x.0) ∷ (below x.0 (codes "feed"), FeedOf x.0) ∷ []) hs) ≡ Some (FeedOf h)
    → (n : ℕ) × (first_place (λ (x : Path × Option Path). bytes_eq x.0 h) hs ≡ Some n)
first_history p h [] e = absurd cc
first_history p h (x ∷ hs) e = go (bytes_eq (below x.0 (codes "query")) p) (bytes_eq (below x.0 (codes "feed")) p) e (λ f. first_history p h hs f)
  where
    rest : Entries
    rest = flat_map (λ (x : Path × Option Path). (below x.0 (codes "query"), QueryOf x.0) ∷ (below x.0 (codes "feed"), FeedOf x.0) ∷ []) hs

    numbered : (b : Bool) (o : Option ℕ) → (n : ℕ) × (o ≡ Some n) → (n : ℕ) × (cond b (Some 0) (option_map (λ n. n + 1) o) ≡ Some n)
    numbered true o (n, is) = (0, refl)
    numbered false o (n, is) = (n + 1, ap (option_map (λ n. n + 1)) is)

    go : (a b : Bool)
        → option_map (λ (y : Path × Resource). y.1) (cond a (Some (below x.0 (codes "query"), QueryOf x.0)) (cond b (Some (below x.0 (codes "feed"), FeedOf x.0)) (find (λ (y : Path × Resource). bytes_eq y.0 p) rest))) ≡ Some (FeedOf h)
        → (at p rest ≡ Some (FeedOf h) → (n : ℕ) × (first_place (λ (x : Path × Option Path). bytes_eq x.0 h) hs ≡ Some n))
        → (n : ℕ) × (first_place (λ (x : Path × Option Path). bytes_eq x.0 h) (x ∷ hs) ≡ Some n)
    go true b e later = absurd cc
    go false true e later =
        let same : x.0 ≡ h = cc in
        (0, ap (λ (b : Bool). cond b (Some 0) (option_map (λ n. n + 1) (first_place (λ (x : Path × Option Path). bytes_eq x.0 h) hs))) ((bytes_eq-Decides x.0 h).1 same))
    go false false e later = numbered (bytes_eq x.0 h) _ (later e)

no_history : (p h : Path) (subject : Option Path) → at p (subject_places subject) ≡ Some (FeedOf h) → ⊥
no_history p h None e = cc
no_history p h (Some q) e = go (bytes_eq (below q (codes "query")) p) (bytes_eq (below q (codes "feed")) p) e
  where
    go : (a b : Bool) → option_map (λ (y : Path × Resource). y.1) (cond a (Some (below q (codes "query"), AlarmQuery)) (cond b (Some (below q (codes "feed"), AlarmFeed)) None)) ≡ Some (FeedOf h) → ⊥
    go true b e = cc
    go false true e = cc
    go false false e = cc

history_number : (plan : Plan) (p h : Path) → at p (event_places plan) ≡ Some (FeedOf h) → (n : ℕ) × (feed_of plan (FeedOf h) ≡ Some n)
history_number plan p h e = go (at p (history_places plan)) refl (sym (at-append p (history_places plan) (subject_places plan.subject)) ∙ e)
  where
    go : (o : Option Resource) → at p (history_places plan) ≡ o → or_else o (at p (subject_places plan.subject)) ≡ Some (FeedOf h) → (n : ℕ) × (feed_of plan (FeedOf h) ≡ Some n)
    go (Some r) found e =
        let first = first_history p h plan.histories (found ∙ e) in
        (first.0, sym (first_is_position (λ (x : Path × Option Path). bytes_eq x.0 h) plan.histories) ∙ first.1)
    go None found e = absurd (no_history p h plan.subject e)

event_numbered : (plan : Plan) (p : Path) (place : Resource) → at p (event_places plan) ≡ Some place → HasNumber plan p place
event_numbered plan p (FeedOf h) e =
    let number = history_number plan p h e in
    (number.0, ap (option_and_then (feed_of plan)) e ∙ number.1)
event_numbered plan p AlarmFeed e = (length plan.histories, ap (option_and_then (feed_of plan)) e)
event_numbered plan p About e = tt
event_numbered plan p Batch e = tt
event_numbered plan p Service e = tt
event_numbered plan p Make e = tt
event_numbered plan p (AlarmAt n) e = tt
event_numbered plan p (AckOf n) e = tt
event_numbered plan p (WritePointOf q) e = tt
event_numbered plan p (QueryOf h) e = tt
event_numbered plan p AlarmQuery e = tt
event_numbered plan p (Node o) e = tt

pub feed_numbered : (plan : Plan) (s : State) (p : Path) (place : Resource) → at p (computed_places plan s) ≡ Some place → HasNumber plan p place
feed_numbered plan s p place e = first (at p (fixed_places plan)) refl (sym (at-append p (fixed_places plan) later) ∙ e)
  where
    alarms : Entries
    alarms = alarm_places plan (board plan s).rules 1 s.alarms

    later : Entries
    later = point_places plan ++ (event_places plan ++ alarms)

    last : (o : Option Resource) → at p (event_places plan) ≡ o → or_else o (at p alarms) ≡ Some place → HasNumber plan p place
    last (Some r) found e = event_numbered plan p place (found ∙ e)
    last None found e = no_feed plan p place ((alarms_none plan (board plan s).rules 1 s.alarms).free p place e)

    second : (o : Option Resource) → at p (point_places plan) ≡ o → or_else o (at p (event_places plan ++ alarms)) ≡ Some place → HasNumber plan p place
    second (Some r) found e = no_feed plan p place ((points_none plan.points).free p place (found ∙ e))
    second None found e = last (at p (event_places plan)) refl (sym (at-append p (event_places plan) alarms) ∙ e)

    first : (o : Option Resource) → at p (fixed_places plan) ≡ o → or_else o (at p later) ≡ Some place → HasNumber plan p place
    first (Some r) found e = no_feed plan p place ((fixed_none plan).free p place (found ∙ e))
    first None found e = second (at p (point_places plan)) refl (sym (at-append p (point_places plan) (event_places plan ++ alarms)) ∙ e)
