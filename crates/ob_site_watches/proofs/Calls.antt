-- The nodes that roles derive are ops and feeds; and no computed path is that of a node.
use Rattle.std.proofs.Common.{ℕ, ◌≡◌, ◌+◌, Bool, true, false, not, ◌&&◌, ◌||◌, cond, List, [], ◌∷◌, ◌++◌, Option, Some, None, option_map, refl, sym, ap, ap₂, ◌∙◌}
use Rattle.std.specs.Prelude.{is_some, codes, find, slice_get, length}
use Rattle.std.specs.Str.{bytes_eq}
use Rattle.std.specs.List.{flat_map, list_any}
use Rattle.ob_object.specs.Object.{Objects, none, node, Object, in_row}
use Rattle.ob_object.specs.Paths.{is_path, node_path}
use Rattle.ob_contracts.specs.Inherit.{or_else, only_if}
use Rattle.ob_alarms.specs.States.{needs_ack}
use Rattle.ob_alarms.specs.declared.alarm.Alarm.{Alarm}
use Rattle.ob_alarms.specs.declared.rule.Rule.{Rule}
use Rattle.ob_site_rules.specs.Build.{Path}
use Rattle.ob_site_rules.specs.Paths.{below, ack_path}
use Rattle.ob_site_rules.specs.Shown.{derived, lobby_children, write_point_op, history_part, subject_children}
use Rattle.ob_site_rules.specs.State.{Log, State, at, board, is_among}
use Rattle.ob_site_rules.specs.declared.plan.Plan.{Plan}
use Rattle.ob_site_rules.specs.Places.{alarm_places, computed_places, event_places, fixed_places, history_places, point_places, subject_places}
use Rattle.ob_site_rules.specs.declared.resource.Resource.{Resource}
use Rattle.ob_site_rules.specs.declared.resource.Resource.TheVariants.{AckOf, FeedOf, Node, QueryOf, WritePointOf}
use Rattle.ob_site_rules.specs.Watched.{is_call_kind}
use Rattle.ob_tree.specs.Contexts.{HandedDown, handed_down, under}
use Rattle.ob_shown_laws.specs.Standing.{Standing, standing_in}
use Rattle.ob_shown_laws.proofs.Looking.{at_path}

-- each node of a row, at every depth, is an op or a feed
abbrev pub are_calls : Objects → Bool
are_calls none = true
are_calls (node h inner rest) = (not (is_some (node_path h)) || is_call_kind h.kind) && (are_calls inner && are_calls rest)

both : (a b : Bool) → (a && b) ≡ true → (a ≡ true) × (b ≡ true)
both true b e = (refl, e)
both false b e = absurd cc

second : (a b : Bool) → a ≡ true → (not a || b) ≡ true → b ≡ true
second true b e f = f
second false b e f = absurd cc

-- so one that is found there is
pub call_found : (p : Path) (r : HandedDown) (os : Objects) (x : Standing) → are_calls os ≡ true → standing_in p r os ≡ Some x → is_call_kind x.object.head.kind ≡ true
call_found p r none x calls e = absurd cc
call_found p r (node h below rest) x calls e =
    let first = both (not (is_some (node_path h)) || is_call_kind h.kind) (are_calls below && are_calls rest) calls in
    let others = both (are_calls below) (are_calls rest) first.1 in
    go (is_path p (node_path h)) (standing_in p d below) refl refl e first.0 (λ f. call_found p d below x others.0 f) (λ f. call_found p r rest x others.1 f)
  where
    d : HandedDown
    d = handed_down (under r h.name) h

    here : Standing
    here = record { context = under r h.name; object = record { head = h; inner = below } }

    some_same : {a b : Standing} → Some a ≡ Some b → a ≡ b
    some_same f = cc

    go : (b : Bool) (i : Option Standing) → is_path p (node_path h) ≡ b → standing_in p d below ≡ i → or_else (only_if b (Some here)) (or_else i (standing_in p r rest)) ≡ Some x
        → (not (is_some (node_path h)) || is_call_kind h.kind) ≡ true
        → (standing_in p d below ≡ Some x → is_call_kind x.object.head.kind ≡ true) → (standing_in p r rest ≡ Some x → is_call_kind x.object.head.kind ≡ true)
        → is_call_kind x.object.head.kind ≡ true
    go true i is deep e own f g =
        ap (λ (y : Standing). is_call_kind y.object.head.kind) (sym (some_same e))
        ∙ second (is_some (node_path h)) (is_call_kind h.kind) (ap is_some (at_path p (node_path h) is)) own
    go false (Some u) is deep e own f g = f (deep ∙ e)
    go false None is deep e own f g = g e

calls_behind : (xs ys : List Object) → are_calls (in_row xs) ≡ true → are_calls (in_row ys) ≡ true → are_calls (in_row (xs ++ ys)) ≡ true
calls_behind [] ys e f = f
calls_behind (x ∷ xs) ys e f =
    let first = both (not (is_some (node_path x.head)) || is_call_kind x.head.kind) (are_calls x.inner && are_calls (in_row xs)) e in
    let others = both (are_calls x.inner) (are_calls (in_row xs)) first.1 in
    ap₂ (λ a b. a && b) first.0 (ap₂ (λ a b. a && b) others.0 (calls_behind xs ys others.1 f))

lobby_calls : (plan : Plan) (b : Bool) → are_calls (in_row (cond b (lobby_children plan) [])) ≡ true
lobby_calls plan true = refl
lobby_calls plan false = refl

point_calls : (p : Path) (b : Bool) → are_calls (in_row (cond b (write_point_op p ∷ []) [])) ≡ true
point_calls p true = refl
point_calls p false = refl

history_calls : (p : Path) (o : Option Log) → are_calls (in_row (history_part p o)) ≡ true
history_calls p None = refl
history_calls p (Some l) = refl

subject_calls : (p : Path) (n : ℕ) (b : Bool) → are_calls (in_row (cond b (subject_children p n) [])) ≡ true
subject_calls p n true = refl
subject_calls p n false = refl

pub derived_calls : (plan : Plan) (s : State) (o : Option Path) → are_calls (in_row (derived plan s o)) ≡ true
derived_calls plan s None = refl
derived_calls plan s (Some p) =
    calls_behind (cond (plan.lobby && bytes_eq p plan.root) (lobby_children plan) []) _ (lobby_calls plan (plan.lobby && bytes_eq p plan.root))
    (calls_behind (cond (is_among p plan.points) (write_point_op p ∷ []) []) _ (point_calls p (is_among p plan.points))
    (calls_behind (history_part p (at p s.logs)) (cond (is_path p plan.subject) (subject_children p (length s.alarms)) []) (history_calls p (at p s.logs)) (subject_calls p (length s.alarms) (is_path p plan.subject))))

-- a place that is that of a node
abbrev pub is_node : Resource → Bool
is_node (Node o) = true
is_node _ = false

abbrev is_free : List (Path × Resource) → Bool
is_free es = list_any (λ e. is_node e.1) es

free_behind : (es fs : List (Path × Resource)) → is_free es ≡ false → is_free fs ≡ false → is_free (es ++ fs) ≡ false
free_behind [] fs e f = f
free_behind (x ∷ es) fs e f = go (is_node x.1) e (λ g. free_behind es fs g f)
  where
    go : (b : Bool) → (b || is_free es) ≡ false → (is_free es ≡ false → is_free (es ++ fs) ≡ false) → (b || is_free (es ++ fs)) ≡ false
    go true e rest = absurd cc
    go false e rest = rest e

free_points : (ps : List Path) → is_free (flat_map (λ p. (below p (codes "writePoint"), WritePointOf p) ∷ []) ps) ≡ false
free_points [] = refl
free_points (p ∷ ps) = free_points ps

free_histories : (hs : List (Path × Option Path)) → is_free (flat_map (λ h. (below h.0 (codes "query"), QueryOf h.0) ∷ (below h.0 (codes "feed"), FeedOf h.0) ∷ []) hs) ≡ false
free_histories [] = refl
free_histories (h ∷ hs) = free_histories hs

free_subject : (subject : Option Path) → is_free (subject_places subject) ≡ false
free_subject None = refl
free_subject (Some p) = refl

free_alarms : (plan : Plan) (rules : List Rule) (n : ℕ) (alarms : List Alarm) → is_free (alarm_places plan rules n alarms) ≡ false
free_alarms plan rules n [] = refl
free_alarms plan rules n (a ∷ alarms) = go (needs_ack (slice_get rules a.rule)) (free_alarms plan rules (n + 1) alarms)
  where
    go : (b : Bool) → is_free (alarm_places plan rules (n + 1) alarms) ≡ false → is_free (cond b ((ack_path plan n, AckOf n) ∷ []) [] ++ alarm_places plan rules (n + 1) alarms) ≡ false
    go true e = e
    go false e = e

free_computed : (plan : Plan) (s : State) → is_free (computed_places plan s) ≡ false
free_computed plan s =
    let alarms = alarm_places plan (board plan s).rules 1 s.alarms in
    let events : is_free (event_places plan) ≡ false = free_behind (history_places plan) (subject_places plan.subject) (free_histories plan.histories) (free_subject plan.subject) in
    let more : is_free (event_places plan ++ alarms) ≡ false = free_behind (event_places plan) alarms events (free_alarms plan (board plan s).rules 1 s.alarms) in
    free_behind (fixed_places plan) (point_places plan ++ (event_places plan ++ alarms)) refl (free_behind (point_places plan) (event_places plan ++ alarms) (free_points plan.points) more)

free_found : (p : Path) (es : List (Path × Resource)) (place : Resource) → is_free es ≡ false → at p es ≡ Some place → is_node place ≡ false
free_found p [] place free e = absurd cc
free_found p (x ∷ es) place free e = go (bytes_eq x.0 p) (is_node x.1) refl free e (λ f g. free_found p es place f g)
  where
    go : (b c : Bool) → is_node x.1 ≡ c → (c || is_free es) ≡ false → option_map (λ (y : Path × Resource). y.1) (cond b (Some x) (find (λ (y : Path × Resource). bytes_eq y.0 p) es)) ≡ Some place
        → (is_free es ≡ false → at p es ≡ Some place → is_node place ≡ false) → is_node place ≡ false
    go b true own free e rest = absurd cc
    go true false own free e rest =
        let same : x.1 ≡ place = cc in
        ap is_node (sym same) ∙ own
    go false false own free e rest = rest free e

-- no computed path is that of a node
pub computed_free : (plan : Plan) (s : State) (p : Path) (place : Resource) → at p (computed_places plan s) ≡ Some place → is_node place ≡ false
computed_free plan s p place e = free_found p (computed_places plan s) place (free_computed plan s) e
