-- What a path names: a node is what is shown there, and the point of a writePoint is one of the plan's.
use Rattle.std.proofs.Common.{◌≡◌, ℕ, ◌+◌, Bool, true, false, cond, ◌||◌, List, [], ◌∷◌, ◌++◌, refl, sym, ap, ◌∙◌}
use Rattle.std.specs.Prelude.{codes, Option, Some, None, option_map, slice_get, find}
use Rattle.std.specs.List.{list_all, flat_map}
use Rattle.std.specs.Str.{bytes_eq}
use Rattle.std.proofs.lemmas.List.Folds.{list_all-append}
use Rattle.ob_values.proofs.Bools.{and_first, and_second, and_true, or_true}
use Rattle.ob_values.proofs.Lists.{bytes_itself}
use Rattle.ob_object.specs.Object.{Object}
use Rattle.ob_contracts.specs.Inherit.{or_else}
use Rattle.ob_alarms.specs.States.{needs_ack}
use Rattle.ob_alarms.specs.declared.alarm.Alarm.{Alarm}
use Rattle.ob_alarms.specs.declared.rule.Rule.{Rule}
use Rattle.ob_site_rules.specs.Build.{Path}
use Rattle.ob_site_rules.specs.declared.plan.Plan.{Plan}
use Rattle.ob_site_rules.specs.State.{State, at, is_among, board}
use Rattle.ob_site_rules.specs.Shown.{shown}
use Rattle.ob_site_rules.specs.Paths.{below, ack_path}
use Rattle.ob_site_rules.specs.declared.resource.Resource.{Resource}
use Rattle.ob_site_rules.specs.declared.resource.Resource.TheVariants.{AckOf, WritePointOf, QueryOf, FeedOf, Node}
use Rattle.ob_site_rules.specs.Places.{fixed_places, point_places, history_places, subject_places, alarm_places, event_places, computed_places, place_at}

-- what a computed path may name
abbrev good : Plan → Resource → Bool
good plan (WritePointOf q) = is_among q plan.points
good plan (Node o) = false
good plan _ = true

abbrev all_good : Plan → List (Path × Resource) → Bool
all_good plan es = list_all (λ e. good plan e.1) es

points_good : (plan : Plan) (ps : List Path) → ((q : Path) → is_among q ps ≡ true → is_among q plan.points ≡ true) → all_good plan (flat_map (λ q. (below q (codes "writePoint"), WritePointOf q) ∷ []) ps) ≡ true
points_good plan [] sub = refl
points_good plan (p ∷ ps) sub =
    and_true (is_among p plan.points) (all_good plan (flat_map (λ q. (below q (codes "writePoint"), WritePointOf q) ∷ []) ps))
    (sub p (ap (λ b. b || is_among p ps) (bytes_itself p)))
    (points_good plan ps (λ q h. sub q (ap (λ b. bytes_eq p q || b) h ∙ or_true (bytes_eq p q))))

histories_good : (plan : Plan) (hs : List (Path × Option Path)) → all_good plan (flat_map (λ h. (below h.0 (codes "query"), QueryOf h.0) ∷ (below h.0 (codes "feed"), FeedOf h.0) ∷ []) hs) ≡ true
histories_good plan [] = refl
histories_good plan (h ∷ hs) = histories_good plan hs

subject_good : (plan : Plan) (subject : Option Path) → all_good plan (subject_places subject) ≡ true
subject_good plan None = refl
subject_good plan (Some p) = refl

behind_ack : (plan : Plan) (n : ℕ) (b : Bool) (es : List (Path × Resource)) → all_good plan es ≡ true → all_good plan (cond b ((ack_path plan n, AckOf n) ∷ []) [] ++ es) ≡ true
behind_ack plan n true es h = h
behind_ack plan n false es h = h

alarms_good : (plan : Plan) (rules : List Rule) (n : ℕ) (alarms : List Alarm) → all_good plan (alarm_places plan rules n alarms) ≡ true
alarms_good plan rules n [] = refl
alarms_good plan rules n (a ∷ alarms) =
    behind_ack plan n (needs_ack (slice_get rules a.rule)) (alarm_places plan rules (n + 1) alarms) (alarms_good plan rules (n + 1) alarms)

appended : (plan : Plan) (xs ys : List (Path × Resource)) → all_good plan xs ≡ true → all_good plan ys ≡ true → all_good plan (xs ++ ys) ≡ true
appended plan xs ys h k = list_all-append (λ (e : Path × Resource). good plan e.1) xs ys ∙ and_true (all_good plan xs) (all_good plan ys) h k

computed_good : (plan : Plan) (s : State) → all_good plan (computed_places plan s) ≡ true
computed_good plan s =
    let alarms = alarm_places plan (board plan s).rules 1 s.alarms in
    let events : all_good plan (event_places plan) ≡ true =
    appended plan (history_places plan) (subject_places plan.subject) (histories_good plan plan.histories) (subject_good plan plan.subject) in
    let more : all_good plan (event_places plan ++ alarms) ≡ true =
    appended plan (event_places plan) alarms events (alarms_good plan (board plan s).rules 1 s.alarms) in
    let rest : all_good plan (point_places plan ++ (event_places plan ++ alarms)) ≡ true =
    appended plan (point_places plan) (event_places plan ++ alarms) (points_good plan plan.points (λ q h. h)) more in
    appended plan (fixed_places plan) (point_places plan ++ (event_places plan ++ alarms)) refl rest

mutual_none : {A : Type 0} (x : A) → None ≡ Some x → ⊥
mutual_none x e = cc

first_good : (plan : Plan) (b : Bool) (x : Path × Resource) (rest : Option (Path × Resource)) (place : Resource) → good plan x.1 ≡ true → (option_map (λ (e : Path × Resource). e.1) rest ≡ Some place → good plan place ≡ true) → option_map (λ (e : Path × Resource). e.1) (cond b (Some x) rest) ≡ Some place → good plan place ≡ true
first_good plan true x rest place h later i = let same : x.1 ≡ place = cc in ap (good plan) (sym same) ∙ h
first_good plan false x rest place h later i = later i

found_good : (plan : Plan) (p : Path) (es : List (Path × Resource)) (place : Resource) → all_good plan es ≡ true → at p es ≡ Some place → good plan place ≡ true
found_good plan p [] place h e = absurd (mutual_none place e)
found_good plan p (x ∷ es) place h e =
    first_good plan (bytes_eq x.0 p) x (find (λ (y : Path × Resource). bytes_eq y.0 p) es) place (and_first (good plan x.1) (all_good plan es) h) (λ i. found_good plan p es place (and_second (good plan x.1) (all_good plan es) h) i) e

node_by : (plan : Plan) (c : Option Resource) (shows : Option Object) (o : Object) → ((q : Resource) → c ≡ Some q → good plan q ≡ true) → or_else c (option_map Node shows) ≡ Some (Node o) → shows ≡ Some o
node_by plan (Some q) shows o h e =
    let same : q ≡ Node o = cc in
    let bad : false ≡ true = ap (good plan) (sym same) ∙ h q refl in
    absurd (cc)
node_by plan None None o h e = absurd (mutual_none (Node o) e)
node_by plan None (Some x) o h e = let same : x ≡ o = cc in ap Some same

node_shown : (plan : Plan) (s : State) (p : Path) (o : Object) → place_at plan s p ≡ Some (Node o) → shown plan s p ≡ Some o
node_shown plan s p o e =
    node_by plan (at p (computed_places plan s)) (shown plan s p) o (λ q i. found_good plan p (computed_places plan s) q (computed_good plan s) i) e

-- a node is what is shown at its path
pub node_there : (plan : Plan) (s : State) (p : Path) (place : Resource) (o : Object) → place_at plan s p ≡ Some place → place ≡ Node o → shown plan s p ≡ Some o
node_there plan s p place o e is = node_shown plan s p o (e ∙ ap (λ (q : Resource). let x : Option Resource = Some q in x) is)

point_by : (plan : Plan) (c : Option Resource) (shows : Option Object) (q : Path) → ((x : Resource) → c ≡ Some x → good plan x ≡ true) → or_else c (option_map Node shows) ≡ Some (WritePointOf q) → is_among q plan.points ≡ true
point_by plan (Some x) shows q h e = let same : x ≡ WritePointOf q = cc in ap (good plan) (sym same) ∙ h x refl
point_by plan None None q h e = absurd (mutual_none (WritePointOf q) e)
point_by plan None (Some x) q h e = absurd (let same : Node x ≡ WritePointOf q = cc in cc)

point_named : (plan : Plan) (s : State) (p q : Path) → place_at plan s p ≡ Some (WritePointOf q) → is_among q plan.points ≡ true
point_named plan s p q e =
    point_by plan (at p (computed_places plan s)) (shown plan s p) q (λ x i. found_good plan p (computed_places plan s) x (computed_good plan s) i) e

-- the point of a writePoint is one of the plan's
pub point_there : (plan : Plan) (s : State) (p : Path) (place : Resource) (q : Path) → place_at plan s p ≡ Some place → place ≡ WritePointOf q → is_among q plan.points ≡ true
point_there plan s p place q e is = point_named plan s p q (e ∙ ap (λ (x : Resource). let y : Option Resource = Some x in y) is)
