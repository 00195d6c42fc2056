-- The writable points of an opened state have values.
use Rattle.std.proofs.Common.{◌≡◌, ℕ, ◌+◌, Bool, true, false, cond, ◌&&◌, ◌||◌, bytes_eq, List, [], ◌∷◌, map, filter, length, Option, Some, None, refl, sym, ap, ◌∙◌, subst, true≢false}
use Rattle.std.specs.Prelude.{is_some, unwrap_or}
use Rattle.std.specs.List.{AllByRecursion}
use Rattle.std.proofs.lemmas.Slice.Eq.{bytes_eq-Decides}
use Rattle.url.specs.Parts.{Parts}
use Rattle.ob_object.specs.declared.kind.Kind.{Kind}
use Rattle.ob_object.specs.declared.head.Head.{Head}
use Rattle.ob_object.specs.Object.{Object, Objects, none, node, count}
use Rattle.ob_object.specs.Paths.{node_path}
use Rattle.ob_object.specs.Kinds.{has_values}
use Rattle.ob_contracts.specs.Ancestry.{own_words}
use Rattle.ob_contracts.specs.Inherit.{Contracts, Words, sources, overridden, implied_by, inherited_head}
use Rattle.ob_hrefs.specs.Hrefs.{site_path, made_object}
use Rattle.ob_site_rules.specs.Build.{Path}
use Rattle.ob_site_rules.specs.State.{is_among}
use Rattle.ob_site_rules.specs.Shown.{node_in, node_of}
use Rattle.ob_site_rules.specs.Sites.{SiteState}
use Rattle.ob_plain_state.specs.States.{IsOfKindAt, NodesAre}
use Rattle.ob_site_rules.specs.declared.roles.Roles.{Roles}
use Rattle.ob_site_rules.specs.Roles.{no_roles, roles_there, holds_contracts, row_roles, all_roles, role_at}
use Rattle.ob_site_rules.specs.Opening.{standard_words}
use Rattle.ob_site_rules.specs.Loading.{Part, row_of, kept_root, kept_row, parts_of, paths_in, path_of, taken_twice, opened}
use Rattle.ob_step_laws.specs.Laws.{Apart, row_paths, kind_or_obj}
use Rattle.ob_step_laws.proofs.Lists.{each_two, each_more}
use Rattle.ob_step_laws.proofs.Once.{taken_once}
use Rattle.ob_step_laws.proofs.OneKind.{apart_are_of_one_kind}
use Rattle.ob_step_laws.proofs.Walk.{Walks, each_part, root_kept}
use Rattle.ob_step_laws.proofs.Kept.{root_apart}
use Rattle.ob_step_laws.proofs.Fit.{all_fit, At, at_own, at_first, at_second, roles_count}
use Rattle.ob_step_laws.proofs.Found.{IsNodeIf}
use Rattle.ob_step_laws.proofs.Roled.{is_point, IsPlaced, all_placed}
use Rattle.ob_step_laws.proofs.Rules.{IsKind, parts_kinds}
use Rattle.ob_step_laws.proofs.Begins.{Begins, begins, words_of}
use Rattle.ob_step_laws.proofs.Inverted.{Opens}
use Rattle.ob_step_laws.specs.Opening.{OpensPoints}

and_both : (a b c : Bool) → (a && (b && c)) ≡ true → b ≡ true
and_both true true c e = refl
and_both true false c e = e
and_both false b c e = absurd (true≢false (sym e))

-- a role of a point is that of an object with a value
role_value : (lib : Contracts) (root inside : Bool) (h : Head) (ws : Option Words) → (roles_there lib root inside h ws).point ≡ true → has_values h.kind ≡ true
role_value lib root true h ws e = absurd (true≢false (sym e))
role_value lib root false h ws e = and_both (is_some (node_path h)) (has_values h.kind) _ e

-- so are those of a row, and of what is in it, the first having this number
abbrev Valued : List Roles → ℕ → Objects → Type 0
Valued rs n none = Unit {0}
Valued rs n (node h inner rest) =
    ((role_at rs n).point ≡ true → has_values h.kind ≡ true) × Valued rs (n + 1) inner × Valued rs (n + 1 + count inner) rest

valued : (lib : Contracts) (root under inside : Bool) (implied : Option Words) (above : List Object) (rs : List Roles) (n : ℕ) (r : Objects)
    → At rs n (row_roles lib root under inside implied above r) → Valued rs n r
valued lib root under inside implied above rs n none a = tt
valued lib root under inside implied above rs n (node h inner rest) a =
    let from = sources lib h implied (overridden h.name above) in
    let within : Bool = inside || holds_contracts under h in
    let first = row_roles lib false root within (implied_by (inherited_head h from)) from inner in
    let second = row_roles lib root under inside implied above rest in
    let long : length first ≡ count inner = roles_count lib false root within (implied_by (inherited_head h from)) from inner in (
      λ e. role_value lib root within h (own_words h implied (overridden h.name above)) (sym (ap (λ (x : Roles). x.point) a.0) ∙ e),
      valued lib false root within (implied_by (inherited_head h from)) from rs (n + 1) inner (at_first rs (n + 1) first second a.1),
      valued lib root under inside implied above rs (n + 1 + count inner) rest
          (subst (λ (k : ℕ). At rs (n + 1 + k) second) long (at_second rs (n + 1) first second a.1)),
    )

-- and those of the parts
abbrev HasValueIf : Part → Type 0
HasValueIf q = q.roles.point ≡ true → has_values q.own.head.kind ≡ true

value_walk : (rs : List Roles) → Walks rs HasValueIf (λ n above r. Valued rs n r)
value_walk rs = record {
  here = λ n above inside h inner rest d f. f.0;
  below = λ n above h inner rest d f. f.1;
  later = λ n above h inner rest f. f.2;
}

abbrev IsPointAt : (Path → Kind) → Part → Type 0
IsPointAt kind_at q = HasValueIf q × (IsNodeIf is_point q × IsKind kind_at q)

-- a point's path is of a kind that has values
at_path : (kind_at : Path → Kind) (q : Part) (p : Path) → IsPointAt kind_at q → q.roles.point ≡ true → bytes_eq (path_of q) p ≡ true → has_values (kind_at p) ≡ true
at_path kind_at q p all point same = go (node_path q.own.head) (all.1.0 point) same all.1.1
  where
    go : (o : Option Path) → is_some o ≡ true → bytes_eq (unwrap_or o []) p ≡ true → IsOfKindAt kind_at o q.own.head.kind → has_values (kind_at p) ≡ true
    go None there e is = absurd (true≢false (sym there))
    go (Some x) there e is = ap has_values (sym (is ∙ ap kind_at ((bytes_eq-Decides x p).0 e))) ∙ all.0 point

found_point : (kind_at : Path → Kind) (ps : List Part) (p : Path) → AllByRecursion (IsPointAt kind_at) ps → is_among p (map path_of (filter (λ q. q.roles.point) ps)) ≡ true → has_values (kind_at p) ≡ true
found_point kind_at [] p all e = absurd (true≢false (sym e))
found_point kind_at (q ∷ ps) p all e = go q.roles.point refl e (λ f. found_point kind_at ps p all.1 f)
  where
    here : (b : Bool) → bytes_eq (path_of q) p ≡ b → q.roles.point ≡ true → (b || is_among p (map path_of (filter (λ q. q.roles.point) ps))) ≡ true
        → (is_among p (map path_of (filter (λ q. q.roles.point) ps)) ≡ true → has_values (kind_at p) ≡ true) → has_values (kind_at p) ≡ true
    here true same point f later = at_path kind_at q p all.0 point same
    here false same point f later = later f

    go : (b : Bool) → q.roles.point ≡ b → is_among p (map path_of (cond b (q ∷ filter (λ q. q.roles.point) ps) (filter (λ q. q.roles.point) ps))) ≡ true
        → (is_among p (map path_of (filter (λ q. q.roles.point) ps)) ≡ true → has_values (kind_at p) ≡ true) → has_values (kind_at p) ≡ true
    go true point f later = here (bytes_eq (path_of q) p) refl point f later
    go false point f later = later f

module _ (base : Parts) (r : Path) (boot : ℕ) (lib words : Contracts) (root : Object) where
  abbrev rs : List Roles
  rs = all_roles words root

  abbrev ps : List Part
  ps = parts_of rs 0 false no_roles (row_of root)

  abbrev tree : Object
  tree = kept_root rs root

  abbrev made : SiteState
  made = opened base r boot lib root tree ps

  abbrev kind_at : Path → Kind
  kind_at p = kind_or_obj (node_in p (row_of tree))

  made_points : taken_twice r [] (paths_in rs 0 no_roles (row_of root)) ≡ None → (p : Path) (o : Object)
      → is_among p made.plan.points ≡ true → node_of p tree ≡ Some o → has_values o.head.kind ≡ true
  made_points once p o point here =
      let nodes : Apart (row_paths (row_of tree)) = root_apart rs root (taken_once r (paths_in rs 0 no_roles (row_of root)) once) in
      let kinds : NodesAre kind_at (row_of tree) = apart_are_of_one_kind (row_of tree) nodes in
      let kept : NodesAre kind_at (kept_row rs 0 no_roles (row_of root)) = subst (NodesAre kind_at) (sym (root_kept rs root)) kinds in
      let values : AllByRecursion HasValueIf ps =
      each_part rs HasValueIf (λ n above r. Valued rs n r) (value_walk rs) 0 false no_roles (row_of root) (valued words true false false None [] rs 0 (row_of root) (at_own [] rs)) in
      let placed : AllByRecursion (IsNodeIf is_point) ps = each_more IsPlaced (IsNodeIf is_point) ps (λ q t. t.point) (all_placed rs root (all_fit words root)) in
      let all : AllByRecursion (IsPointAt kind_at) ps =
      each_two HasValueIf (λ q. IsNodeIf is_point q × IsKind kind_at q) ps values
      (each_two (IsNodeIf is_point) (IsKind kind_at) ps placed (parts_kinds kind_at rs 0 false no_roles (row_of root) kept)) in
      ap (λ (x : Option Object). has_values (kind_or_obj x)) (sym here) ∙ found_point kind_at ps p all point

  pub opened_points : (st : SiteState) → Opens base r boot lib words root st → (p : Path) (o : Object)
      → is_among p st.plan.points ≡ true → node_of p st.world.site.tree ≡ Some o → has_values o.head.kind ≡ true
  opened_points st opens p o point here =
      made_points opens.once p o
      (ap (λ (x : SiteState). is_among p x.plan.points) opens.is ∙ point)
      (ap (λ (x : SiteState). node_of p x.world.site.tree) opens.is ∙ here)

pub opens_points : OpensPoints
opens_points root boot st opens p o point here =
    let b : Begins root boot st = begins root boot st opens in
    let m : Object = made_object (site_path b.base) (Some b.base.path) root in
    opened_points b.base b.base.path boot b.lib (words_of standard_words m) m st b.opens p o point here
