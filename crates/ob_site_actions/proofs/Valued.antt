-- What is shown of an own node is of its kind.
use Rattle.std.proofs.Common.{◌≡◌, ℕ, zero, suc, ◌-◌, ◌<◌, ◌≤◌, Bool, true, false, ◌++◌, length, Option, Some, None, option_map, refl, sym, ap, ◌∙◌, subst, arith}
use Rattle.std.specs.Prelude.{is_some, slice_get, nat_lt, option_and_then}
use Rattle.std.proofs.lemmas.Bool.{ltb-true, ltb-false}
use Rattle.ob_values.proofs.Lists.{some_same}
use Rattle.ob_object.specs.declared.kind.Kind.{Kind}
use Rattle.ob_object.specs.declared.head.Head.{Head}
use Rattle.ob_object.specs.Object.{Objects, none, node, Object, count}
use Rattle.ob_object.specs.Paths.{node_path}
use Rattle.ob_object.specs.Kinds.{has_values}
use Rattle.ob_contracts.specs.Inherit.{Contracts, Words, result_of, effective_of}
use Rattle.ob_tree.specs.Contexts.{Context, comes_to}
use Rattle.ob_shown_laws.specs.Alike.{row}
use Rattle.ob_shown_laws.specs.Own.{derived_own}
use Rattle.ob_shown_laws.proofs.Looking.{at_path}
use Rattle.ob_site_rules.specs.Build.{Path}
use Rattle.ob_site_rules.specs.Shown.{node_of, rule_of, with_status_at, with_status_by}
use Rattle.ob_site_rules.specs.State.{State, source_of}
use Rattle.ob_site_rules.specs.declared.plan.Plan.{Plan}
use Rattle.ob_plain_state.specs.States.{NodesAre, IsOfKindAt}
use Rattle.ob_plain_state.proofs.ShownKinds.{good_nodes, found_kind}
use Rattle.ob_tree.specs.Laid.{heads, heads_of, head_at, paths}
use Rattle.ob_tree.specs.Paths.{place_of}
use Rattle.ob_tree.specs.Shown.{part_at, standing_at}
use Rattle.ob_tree.proofs.Changing.{length-heads, got_left, got_right}
use Rattle.ob_shown_laws.specs.OwnTree.{own_shown_at}
use Rattle.ob_shown_laws.proofs.Owned.{own_trees_tell, part_there}
use Rattle.ob_site_state.proofs.Noting.{head_there}
use Rattle.ob_site_actions.proofs.Taking.{node_within, placed}
use Rattle.ob_site_actions.proofs.Nowhere.{is_there}
use Rattle.ob_site_actions.specs.Sources.{PointsHaveValues}

-- nodes at one path are of one kind, by their numbers too
abbrev IsOf : (Path → Kind) → Head → Type 0
IsOf kind_at h = IsOfKindAt kind_at (node_path h) h.kind

kind_by : (kind_at : Path → Kind) (h : Head) (inner rest : Objects) (n : ℕ) (b : Bool) → nat_lt n (count inner) ≡ b → slice_get (heads inner ++ heads rest) n ≡ Some h
    → ((m : ℕ) → slice_get (heads inner) m ≡ Some h → IsOf kind_at h) → ((m : ℕ) → slice_get (heads rest) m ≡ Some h → IsOf kind_at h) → IsOf kind_at h
kind_by kind_at h inner rest n true lt e left right =
    let within : n < length (heads inner) = omega (arith, ltb-true n (count inner) lt, length-heads inner) in
    left n (sym (got_left (heads inner) (heads rest) n within) ∙ e)
kind_by kind_at h inner rest n false lt e left right =
    let past : length (heads inner) ≤ n = omega (arith, ltb-false n (count inner) lt, length-heads inner) in
    right (n - length (heads inner)) (sym (got_right (heads inner) (heads rest) n past) ∙ e)

kind_in : (kind_at : Path → Kind) (r : Objects) (n : ℕ) (h : Head) → NodesAre kind_at r → slice_get (heads r) n ≡ Some h → IsOf kind_at h
kind_in kind_at none n h kinds e = absurd cc
kind_in kind_at (node g inner rest) zero h kinds e =
    let same : g ≡ h = cc in
    subst (IsOf kind_at) same kinds.0
kind_in kind_at (node g inner rest) (suc n) h kinds e =
    kind_by kind_at h inner rest n (nat_lt n (count inner)) refl e (λ m at. kind_in kind_at inner m h kinds.1 at) (λ m at. kind_in kind_at rest m h kinds.2 at)

kind_of_place : (kind_at : Path → Kind) (o : Object) (p : Path) (n : ℕ) (h : Head) → NodesAre kind_at (row o) → place_of p (paths o) ≡ Some n → head_at n o ≡ Some h → h.kind ≡ kind_at p
kind_of_place kind_at o p n h kinds place is =
    subst (λ (q : Option Path). IsOfKindAt kind_at q h.kind) (at_path p (node_path h) (placed p (heads_of o) n h place is)) (go n is)
  where
    go : (n : ℕ) → head_at n o ≡ Some h → IsOf kind_at h
    go zero e =
        let same : o.head ≡ h = cc in
        subst (IsOf kind_at) same kinds.0
    go (suc n) e = kind_in kind_at o.inner n h kinds.1 e

-- an object comes to one of its kind
status_by : (plan : Plan) (s : State) (h : Head) (r : Option ℕ) → (with_status_by plan s h r).kind ≡ h.kind
status_by plan s h None = refl
status_by plan s h (Some rule) = refl

status_at : (plan : Plan) (s : State) (h : Head) (q : Option Path) → (with_status_at plan s h q).kind ≡ h.kind
status_at plan s h None = refl
status_at plan s h (Some p) = status_by plan s h (rule_of plan p)

effective_kind : (lib : Contracts) (o : Object) (implied : Option Words) (over : Option Object) → (effective_of lib o implied over).head.kind ≡ o.head.kind
unfolding result_of
effective_kind lib o implied over = refl

comes_to_kind : (plan : Plan) (s : State) (c : Context) (x : Object) → (comes_to c (derived_own plan s x)).head.kind ≡ x.head.kind
comes_to_kind plan s c x = effective_kind c.library (derived_own plan s x) c.implied c.over ∙ status_at plan s x.head (node_path x.head)

number_kind : (plan : Plan) (s : State) (n : ℕ) (x o : Object) → part_at n s.tree ≡ Some x → own_shown_at plan s n ≡ Some o → o.head.kind ≡ x.head.kind
number_kind plan s n x o there shows =
    go (standing_at s.library n s.tree) (sym (ap (λ (q : Option Object). option_and_then (λ c. option_map (λ y. comes_to c (derived_own plan s y)) q) (standing_at s.library n s.tree)) there) ∙ shows)
  where
    go : (c : Option Context) → option_and_then (λ c. option_map (λ y. comes_to c (derived_own plan s y)) (Some x)) c ≡ Some o → o.head.kind ≡ x.head.kind
    go None e = absurd cc
    go (Some c) e = ap (λ (y : Object). y.head.kind) (sym (some_same e)) ∙ comes_to_kind plan s c x

found : {A : Type 0} (o : Option A) → is_some o ≡ true → (x : A) × (o ≡ Some x)
found None e = absurd cc
found (Some x) e = (x, refl)

pub points_have_values : PointsHaveValues
points_have_values plan s consistent differ sources p history o among records shows =
    let kind_at = consistent.kind_at in
    let own = found (node_of p s.tree) (consistent.points p among) in
    let value : has_values own.0.head.kind ≡ true = sources history p own.0 (at_path p (source_of plan history) records) own.1 in
    let kind : own.0.head.kind ≡ kind_at p = found_kind kind_at p own.0 (row s.tree) (good_nodes kind_at (row s.tree) consistent.kinds) own.1 value in
    let place = found (place_of p (paths s.tree)) (sym (is_there p s.tree) ∙ consistent.points p among) in
    let head = head_there s.tree place.0 (node_within s.tree p place.0 place.1) in
    let part = part_there place.0 s.tree head.0 head.1 in
    let shown : o.head.kind ≡ part.0.head.kind = number_kind plan s place.0 part.0 o part.1 (sym ((own_trees_tell plan s).shows_own p place.0 differ place.1) ∙ shows) in
    ap has_values (shown ∙ ap (λ (h : Head). h.kind) part.2 ∙ kind_of_place kind_at s.tree p place.0 head.0 consistent.kinds place.1 head.1 ∙ sym kind) ∙ value
