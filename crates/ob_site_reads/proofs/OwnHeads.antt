-- What is shown of an own node, as far as its own head tells it.
use Rattle.std.proofs.Common.{◌≡◌, ℕ, Option, Some, None, option_map, refl, sym, ap, ap₂, ◌∙◌}
use Rattle.std.specs.Prelude.{option_and_then}
use Rattle.ob_object.specs.declared.head.Head.{Head}
use Rattle.ob_object.specs.declared.kind.Kind.{Kind}
use Rattle.ob_object.specs.Object.{Object}
use Rattle.ob_object.specs.Paths.{node_path}
use Rattle.ob_contracts.specs.Inherit.{Contracts, result_of}
use Rattle.ob_ground.specs.Grounds.{alone_at}
use Rattle.ob_site_rules.specs.Build.{Path, leaf}
use Rattle.ob_site_rules.specs.Shown.{dressed, rule_of, shown, with_status_at, with_status_by}
use Rattle.ob_site_rules.specs.State.{State}
use Rattle.ob_site_rules.specs.declared.plan.Plan.{Plan}
use Rattle.ob_tree.specs.Contexts.{Context, comes_to, under}
use Rattle.ob_shown_laws.specs.Alike.{row}
use Rattle.ob_shown_laws.specs.Changed.{PathsDiffer, head_in}
use Rattle.ob_shown_laws.specs.Own.{derived_own}
use Rattle.ob_tree.specs.Laid.{head_at, leaf as leaf_of, paths}
use Rattle.ob_tree.specs.Paths.{place_of}
use Rattle.ob_tree.specs.Shown.{effective_in, handed_at, standing_at}
use Rattle.ob_shown_laws.proofs.Owned.{own_trees_tell, part_there}
use Rattle.ob_site_reads.specs.Targets.{target, target_head}

-- the head of an object that is lent without its children
pub leaf_there : (q : Option Head) (o : Object) → Some o ≡ option_map leaf_of q → q ≡ Some o.head
leaf_there None o e = absurd cc
leaf_there (Some h) o e = ap (λ (x : Object). Some x.head) (sym (some_same e))
  where
    some_same : {a b : Object} → Some a ≡ Some b → a ≡ b
    some_same f = cc

-- an object that is lent without its children stands in a place
abbrev pub place_there : Contracts → ℕ → Object → Object → Context
place_there lib n o own = under (handed_at lib n o) own.head.name

pub stands_there : (lib : Contracts) (n : ℕ) (o own : Object) → Some own ≡ option_map leaf_of (head_at n o) → Some (place_there lib n o own) ≡ standing_at lib n o
stands_there lib n o own lent = sym (ap (option_map (λ (h : Head). under (handed_at lib n o) h.name)) (leaf_there (head_at n o) own lent))

-- and what is seen of it alone is what it comes to there
pub seen_there : (lib : Contracts) (n : ℕ) (o own seen : Object) → Some own ≡ option_map leaf_of (head_at n o) → Some seen ≡ alone_at lib n o → seen ≡ comes_to (place_there lib n o own) own
seen_there lib n o own seen lent sees = some_same (sees ∙ sym (ap (option_map (effective_in (handed_at lib n o))) lent))
  where
    some_same : {a b : Object} → Some a ≡ Some b → a ≡ b
    some_same f = cc

-- where something is seen of it, it says something of itself
pub lent_there : (lib : Contracts) (n : ℕ) (o seen : Object) → Some seen ≡ alone_at lib n o → (own : Object) × (Some own ≡ option_map leaf_of (head_at n o))
lent_there lib n o seen sees = by (head_at n o) sees
  where
    by : (h : Option Head) → Some seen ≡ option_map (effective_in (handed_at lib n o)) (option_map leaf_of h) → (own : Object) × (Some own ≡ option_map leaf_of h)
    by None e = absurd cc
    by (Some h) e = (leaf_of h, refl)

-- what an object comes to has the head that its own comes to
comes_head : (c : Context) (o : Object) → (comes_to c o).head ≡ head_in c o.head
unfolding result_of
comes_head c o = refl

-- a status leaves what is asked of a target
status_by : (plan : Plan) (s : State) (c : Context) (h : Head) (r : Option ℕ) → target_head (head_in c (with_status_by plan s h r)) ≡ target_head (head_in c h)
status_by plan s c h None = refl
status_by plan s c h (Some rule) = refl

status_at : (plan : Plan) (s : State) (c : Context) (h : Head) (o : Option Path) → target_head (head_in c (with_status_at plan s h o)) ≡ target_head (head_in c h)
status_at plan s c h None = refl
status_at plan s c h (Some p) = status_by plan s c h (rule_of plan p)

-- an own node is shown, and of what is shown the same is asked as of what its own head comes to
pub own_shows : (plan : Plan) (s : State) (p : Path) (n : ℕ) (c : Context) (own : Object) → PathsDiffer (row (dressed plan s)) → Some n ≡ place_of p (paths s.tree)
    → Some c ≡ standing_at s.library n s.tree → Some own ≡ option_map leaf_of (head_at n s.tree)
    → (o : Object) × ((shown plan s p ≡ Some o) × (target o ≡ target (comes_to c own)))
own_shows plan s p n c own differ here stands lent =
    let part = part_there n s.tree own.head (leaf_there (head_at n s.tree) own lent) in
    let x : Object = part.0 in (
      comes_to c (derived_own plan s x),
      (
        (own_trees_tell plan s).shows_own p n differ (sym here)
            ∙ ap₂ (λ (i : Option Context) (j : Option Object). option_and_then (λ c. option_map (λ o. comes_to c (derived_own plan s o)) j) i) (sym stands) part.1,
        ap (λ (h : Head). leaf (target_head h)) (comes_head c (derived_own plan s x))
            ∙ ap leaf (status_at plan s c x.head (node_path x.head))
            ∙ ap (λ (h : Head). leaf (target_head (head_in c h))) part.2
            ∙ sym (ap (λ (h : Head). leaf (target_head h)) (comes_head c own)),
      ),
    )

-- so what is asked of it is told
pub own_shows_target : (plan : Plan) (s : State) (p : Path) (n : ℕ) (seen made : Object) (h : Head) → PathsDiffer (row (dressed plan s)) → Some n ≡ place_of p (paths s.tree)
    → Some seen ≡ alone_at s.library n s.tree → h ≡ target_head seen.head → made ≡ leaf h → option_map target (shown plan s p) ≡ Some made
own_shows_target plan s p n seen made h differ here sees asks makes =
    let it = lent_there s.library n s.tree seen sees in
    let own : Object = it.0 in
    let w = own_shows plan s p n (place_there s.library n s.tree own) own differ here (stands_there s.library n s.tree own it.1) it.1 in
    ap (option_map target) w.1.0
    ∙ ap (λ (o : Object). Some o) (w.1.1 ∙ sym (makes ∙ ap leaf asks ∙ ap target (seen_there s.library n s.tree own seen it.1 sees)))

-- and its kind
pub own_shows_kind : (plan : Plan) (s : State) (p : Path) (n : ℕ) (own : Object) (kind : Kind) → PathsDiffer (row (dressed plan s)) → Some n ≡ place_of p (paths s.tree)
    → Some own ≡ option_map leaf_of (head_at n s.tree) → kind ≡ own.head.kind → option_map (λ (o : Object). o.head.kind) (shown plan s p) ≡ Some kind
own_shows_kind plan s p n own kind differ here lent is =
    let c : Context = place_there s.library n s.tree own in
    let w = own_shows plan s p n c own differ here (stands_there s.library n s.tree own lent) lent in
    ap (option_map (λ (o : Object). o.head.kind)) w.1.0
    ∙ ap (λ (k : Kind). Some k) (ap (λ (o : Object). o.head.kind) w.1.1 ∙ ap (λ (h : Head). h.kind) (comes_head c own) ∙ sym is)
