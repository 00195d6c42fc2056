-- What is compared of a node tells whether a watch shows something else of it.
use Rattle.std.proofs.Common.{ℕ, ◌≡◌, ◌<◌, Bool, true, false, not, ◌&&◌, [], Option, Some, None, option_map, refl, sym, ap, ap₂, ◌∙◌, subst}
use Rattle.std.specs.Prelude.{is_some}
use Rattle.ob_values.proofs.Bools.{and_first, and_second, is_false, not_both}
use Rattle.ob_values.proofs.Lists.{some_same}
use Rattle.ob_object.specs.declared.kind.Kind.{Kind}
use Rattle.ob_object.specs.declared.kind.Kind.TheVariants as kind
use Rattle.ob_object.specs.declared.head.Head.{Head}
use Rattle.ob_object.specs.Kinds.{same_kind}
use Rattle.ob_object.specs.Object.{Objects, Object, parts}
use Rattle.ob_object.specs.Paths.{node_path}
use Rattle.ob_contracts.specs.Inherit.{Contracts, result_of}
use Rattle.ob_site_rules.specs.Build.{Path}
use Rattle.ob_site_rules.specs.Shown.{dressed}
use Rattle.ob_site_rules.specs.State.{State}
use Rattle.ob_site_rules.specs.declared.plan.Plan.{Plan}
use Rattle.ob_site_rules.specs.Sameness.{same_object}
use Rattle.ob_site_rules.specs.Sites.{plain_or_empty, watched_object}
use Rattle.ob_site_laws.proofs.Same.{object_decides}
use Rattle.ob_tree.specs.Contexts.{Context, under, comes_to}
use Rattle.ob_shown_laws.specs.Alike.{row}
use Rattle.ob_shown_laws.specs.Changed.{is_watchable, PathsDiffer}
use Rattle.ob_shown_laws.specs.Own.{derived_own}
use Rattle.ob_shown_laws.specs.OwnShown.{dressed_standing}
use Rattle.ob_shown_laws.specs.Standing.{Standing, standing_at as site_standing}
use Rattle.ob_shown_laws.proofs.OwnStanding.{own_is_enough}
use Rattle.ob_shown_laws.proofs.Alikes.{watched}
use Rattle.ob_shown_laws.proofs.Reaching.{at_row, as_watched}
use Rattle.ob_tree.specs.Laid.{head_at, paths}
use Rattle.ob_tree.specs.Paths.{place_of, first_twice}
use Rattle.ob_tree.specs.Shown.{part_at, handed_at, standing_at}
use Rattle.ob_tree.proofs.Within.{place_within}
use Rattle.ob_shown_laws.proofs.Owned.{part_there, own_found, not_derived, standing}
use Rattle.ob_shown_laws.proofs.Followed.{kind_off}
use Rattle.ob_shown_laws.proofs.Bridging.{first_of}
use Rattle.ob_site_state.proofs.Noting.{head_there}
use Rattle.ob_step_laws.specs.Defaults.{with_library, is_same}
use Rattle.ob_step_laws.proofs.Either.{plain_or, shape, as_shape, watched_at, roles_library}
use Rattle.ob_site_settling.specs.Otherwise.{IsOtherwise}
use Rattle.ob_site_settling.specs.Watched.{can_be_watched}
use Rattle.ob_site_settling.proofs.Places.{placed_at, node_there}

pub dressed_library : (plan : Plan) (s : State) (lib : Contracts) (x : Object) → derived_own plan (with_library lib s) x ≡ derived_own plan s x
dressed_library plan s lib x = ap (λ (r : Objects). first_of x r) (roles_library plan s lib (row x))

pub root_library : (plan : Plan) (s : State) (lib : Contracts) → dressed plan (with_library lib s) ≡ dressed plan s
root_library plan s lib = dressed_library plan s lib s.tree

-- an own node is found where it stands, with statuses and derived children
pub own_there : (plan : Plan) (s : State) (p : Path) (n : ℕ) (x : Object) (c : Context) → PathsDiffer (row (dressed plan s)) → place_of p (paths s.tree) ≡ Some n
    → standing_at s.library n s.tree ≡ Some c → part_at n s.tree ≡ Some x → site_standing plan s p ≡ Some (standing c (derived_own plan s x))
own_there plan s p n x c differ at stands here =
    (own_is_enough plan s).stands p (not_derived plan s p n differ at) ∙ ap (option_map (dressed_standing plan s)) (own_found s p n x c at stands here)

own_watched : (plan : Plan) (s : State) (p : Path) (n : ℕ) (x : Object) (c : Context) → PathsDiffer (row (dressed plan s)) → place_of p (paths s.tree) ≡ Some n
    → standing_at s.library n s.tree ≡ Some c → part_at n s.tree ≡ Some x → watched_object plan s p ≡ as_watched (Some (standing c (derived_own plan s x)))
own_watched plan s p n x c differ at stands here =
    watched_at plan s p ∙ ap (λ (o : Option Standing). as_watched o) (sym (at_row plan s p) ∙ own_there plan s p n x c differ at stands here)

-- and so with another library
other_watched : (plan : Plan) (s : State) (lib : Contracts) (p : Path) (n : ℕ) (x : Object) (c : Context) → PathsDiffer (row (dressed plan s)) → place_of p (paths s.tree) ≡ Some n
    → standing_at lib n s.tree ≡ Some c → part_at n s.tree ≡ Some x → watched_object plan (with_library lib s) p ≡ as_watched (Some (standing c (derived_own plan s x)))
other_watched plan s lib p n x c differ at stands here =
    own_watched plan (with_library lib s) p n x c (subst (λ (o : Object). PathsDiffer (row o)) (sym (root_library plan s lib)) differ) at stands here
    ∙ ap (λ (o : Object). as_watched (Some (standing c o))) (dressed_library plan s lib x)

-- a watch shows an object that can be watched as before where it comes to the same, and only there
plain_same : (b : Bool) (u v : Object) → b ≡ true → plain_or b u ≡ plain_or b v → u ≡ v
plain_same true u v e f = f
plain_same false u v e f = absurd cc

pub comes_same : (c k : Context) (d : Object) → is_watchable d.head ≡ true → as_watched (Some (standing c d)) ≡ as_watched (Some (standing k d)) → comes_to c d ≡ comes_to k d
unfolding result_of
comes_same c k d watchable e =
    let shapes : shape c d.head d.inner ≡ shape k d.head d.inner =
    plain_same (is_watchable d.head) (shape c d.head d.inner) (shape k d.head d.inner) watchable (sym (as_shape c d.head d.inner) ∙ e ∙ as_shape k d.head d.inner) in
    ap (λ (o : Object). (let x : Object = record { head = record o.head { name = d.head.name; href = d.head.href }; inner = o.inner } in x)) shapes

watched_same : (c k : Context) (d : Object) → comes_to c d ≡ comes_to k d → as_watched (Some (standing c d)) ≡ as_watched (Some (standing k d))
watched_same c k d e = ap (λ (o : Object). plain_or_empty (watched o)) e

-- an own object that is no node or can't be watched is shown to no watch otherwise
hidden_same : (c k : Context) (d : Object) → is_watchable d.head ≡ false → as_watched (Some (standing c d)) ≡ as_watched (Some (standing k d))
hidden_same c k d hidden =
    as_shape c d.head d.inner
    ∙ ap (λ b. plain_or b (shape c d.head d.inner)) hidden
    ∙ sym (ap (λ b. plain_or b (shape k d.head d.inner)) hidden)
    ∙ sym (as_shape k d.head d.inner)

abbrev stands_at : Contracts → ℕ → State → Head → Context
stands_at lib n s h = under (handed_at lib n s.tree) h.name

stands_there : (lib : Contracts) (n : ℕ) (s : State) (h : Head) → head_at n s.tree ≡ Some h → standing_at lib n s.tree ≡ Some (stands_at lib n s h)
stands_there lib n s h e = ap (option_map (λ (k : Head). under (handed_at lib n s.tree) k.name)) e

-- both states of a node are those in which it stands by the two libraries
both_watched : (plan : Plan) (s : State) (old new : Contracts) (p : Path) (n : ℕ) (x : Object) (c k : Context) → PathsDiffer (row (dressed plan s)) → place_of p (paths s.tree) ≡ Some n
    → standing_at old n s.tree ≡ Some c → standing_at new n s.tree ≡ Some k → part_at n s.tree ≡ Some x
    → is_same plan (with_library old s) (with_library new s) p ≡ same_object (as_watched (Some (standing c (derived_own plan s x)))) (as_watched (Some (standing k (derived_own plan s x))))
both_watched plan s old new p n x c k differ at before after here =
    ap₂ (λ (u v : Object). same_object u v) (other_watched plan s old p n x c differ at before here) (other_watched plan s new p n x k differ at after here)

some_path : (o : Option Path) → is_some o ≡ true → (p : Path) × (o ≡ Some p)
some_path None e = absurd cc
some_path (Some p) e = (p, refl)

second_false : (a b : Bool) → a ≡ true → (a && b) ≡ false → b ≡ false
second_false true b e f = f
second_false false b e f = absurd cc

-- an own object with its status can be watched where it could without
dressed_watchable : (plan : Plan) (s : State) (n : ℕ) (h : Head) (x : Object) → x.head ≡ h → is_watchable (derived_own plan s x).head ≡ is_watchable h
dressed_watchable plan s n h x e = kind_off plan s x.head (node_path x.head) ∙ ap (λ (k : Head). is_watchable k) e

-- what is no node, or can't be watched, isn't shown otherwise
pub not_otherwise : (plan : Plan) (s : State) (old : Contracts) (n : ℕ) → PathsDiffer (row (dressed plan s)) → can_be_watched (head_at n s.tree) ≡ false
    → IsOtherwise plan (with_library old s) s.library n → ⊥
not_otherwise plan s old n differ hidden otherwise =
    let p : Path = otherwise.0 in
    let at_n : place_of p (paths s.tree) ≡ Some n = otherwise.1 in
    let h : (h : Head) × (head_at n s.tree ≡ Some h) = head_there s.tree n (place_within s.tree p n at_n) in
    let x : (x : Object) × (part_at n s.tree ≡ Some x) × (x.head ≡ h.0) = part_there n s.tree h.0 h.1 in
    let off : is_watchable h.0 ≡ false =
    second_false (is_some (node_path h.0)) (is_watchable h.0) (node_there s.tree p n h.0 at_n h.1) (sym (ap (λ (o : Option Head). can_be_watched o) h.1) ∙ hidden) in
    let d : Object = derived_own plan s x.0 in
    let c : Context = stands_at old n s h.0 in
    let k : Context = stands_at s.library n s h.0 in
    let same : as_watched (Some (standing c d)) ≡ as_watched (Some (standing k d)) = hidden_same c k d (dressed_watchable plan s n h.0 x.0 x.2 ∙ off) in
    not_both (is_same plan (with_library old s) (with_library s.library s) p)
    (both_watched plan s old s.library p n x.0 c k differ at_n (stands_there old n s h.0 h.1) (stands_there s.library n s h.0 h.1) x.1
    ∙ (object_decides (as_watched (Some (standing c d))) (as_watched (Some (standing k d)))).1 same)
    otherwise.2

-- what is compared tells it
pub record Compared (plan : Plan) (s : State) (old : Contracts) (n : ℕ) (same : Bool) : Type 0 where
  pub told : same ≡ false → IsOtherwise plan (with_library old s) s.library n
  pub tells : IsOtherwise plan (with_library old s) s.library n → same ≡ false

compared : (plan : Plan) (s : State) (old : Contracts) (n : ℕ) (h : Head) (x : Object) (c k : Context) (same : Bool) → PathsDiffer (row (dressed plan s)) → first_twice [] (paths s.tree) ≡ None
    → head_at n s.tree ≡ Some h → part_at n s.tree ≡ Some x → x.head ≡ h → (is_some (node_path h) && is_watchable h) ≡ true
    → standing_at old n s.tree ≡ Some c → standing_at s.library n s.tree ≡ Some k
    → (same ≡ true → comes_to c (derived_own plan s x) ≡ comes_to k (derived_own plan s x)) → (comes_to c (derived_own plan s x) ≡ comes_to k (derived_own plan s x) → same ≡ true)
    → Compared plan s old n same
compared plan s old n h x c k same differ once here part head watched before after to from = record {
  told = λ e.
      (let p : (p : Path) × (node_path h ≡ Some p) = some_path (node_path h) (and_first (is_some (node_path h)) (is_watchable h) watched) in
      let at_n : place_of p.0 (paths s.tree) ≡ Some n = placed_at s.tree n h p.0 once here p.1 in
      (p.0, at_n, is_false (is_same plan (with_library old s) (with_library s.library s) p.0) (λ t. not_both same (from (comes_same c k d watchable (seen p.0 at_n t))) e)));
  tells = λ o.
      is_false same
      (λ t. not_both (is_same plan (with_library old s) (with_library s.library s) o.0)
      (both_watched plan s old s.library o.0 n x c k differ o.1 before after part
      ∙ (object_decides (as_watched (Some (standing c d))) (as_watched (Some (standing k d)))).1 (watched_same c k d (to t)))
      o.2);
}
  where
    d : Object
    d = derived_own plan s x

    watchable : is_watchable d.head ≡ true
    watchable = dressed_watchable plan s n h x head ∙ and_second (is_some (node_path h)) (is_watchable h) watched

    seen : (p : Path) → place_of p (paths s.tree) ≡ Some n → is_same plan (with_library old s) (with_library s.library s) p ≡ true → as_watched (Some (standing c d)) ≡ as_watched (Some (standing k d))
    seen p at_n t =
        (object_decides (as_watched (Some (standing c d))) (as_watched (Some (standing k d)))).0
        (sym (both_watched plan s old s.library p n x c k differ at_n before after part) ∙ t)

some_context : {a b : Context} → Some a ≡ Some b → a ≡ b
some_context e = cc

pub told_otherwise : (plan : Plan) (s : State) (old : Contracts) (n : ℕ) (d : Object) (c k : Context) (same : Bool) → PathsDiffer (row (dressed plan s)) → first_twice [] (paths s.tree) ≡ None
    → n < parts s.tree → can_be_watched (head_at n s.tree) ≡ true → Some d ≡ option_map (derived_own plan s) (part_at n s.tree)
    → Some c ≡ standing_at old n s.tree → Some k ≡ standing_at s.library n s.tree
    → (same ≡ true → comes_to c d ≡ comes_to k d) → (comes_to c d ≡ comes_to k d → same ≡ true) → Compared plan s old n same
told_otherwise plan s old n d c k same differ once within watched made before after to from =
    let h : (h : Head) × (head_at n s.tree ≡ Some h) = head_there s.tree n within in
    let x : (x : Object) × (part_at n s.tree ≡ Some x) × (x.head ≡ h.0) = part_there n s.tree h.0 h.1 in
    let is : d ≡ derived_own plan s x.0 = some_same (made ∙ ap (option_map (derived_own plan s)) x.1) in
    compared plan s old n h.0 x.0 c k same differ once h.1 x.1 x.2 (sym (ap (λ (o : Option Head). can_be_watched o) h.1) ∙ watched) (sym before) (sym after)
    (λ e. subst (λ (o : Object). comes_to c o ≡ comes_to k o) is (to e))
    (λ e. from (subst (λ (o : Object). comes_to c o ≡ comes_to k o) (sym is) e))

-- a node that is no feed can be watched
pub watched_kind : (h : Head) (path : Option Path) (feed : Bool) → path ≡ node_path h → feed ≡ same_kind h.kind kind.Feed → (is_some path && not feed) ≡ can_be_watched (Some h)
watched_kind h path feed is same = ap₂ (λ (p : Option Path) (f : Bool). is_some p && not f) is same ∙ by_kind h.kind h.href
  where
    by_kind : (k : Kind) (href : Option Path) → (is_some (node_path (record h { kind = k; href = href })) && not (same_kind k kind.Feed)) ≡ (is_some (node_path (record h { kind = k; href = href })) && is_watchable (record h { kind = k; href = href }))
    by_kind kind.Obj href = refl
    by_kind kind.Bool href = refl
    by_kind kind.Int href = refl
    by_kind kind.Real href = refl
    by_kind kind.Str href = refl
    by_kind kind.Enum href = refl
    by_kind kind.Uri href = refl
    by_kind kind.Abstime href = refl
    by_kind kind.Reltime href = refl
    by_kind kind.Date href = refl
    by_kind kind.Time href = refl
    by_kind kind.List href = refl
    by_kind kind.Op href = refl
    by_kind kind.Feed href = refl
    by_kind kind.Ref href = refl
    by_kind kind.Err href = refl
