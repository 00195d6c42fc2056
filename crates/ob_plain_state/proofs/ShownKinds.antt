-- What is shown at a path is of the kind of the nodes there.
use Rattle.std.proofs.Common.{◌≡◌, ℕ, Bool, true, false, not, ◌&&◌, ◌||◌, cond, List, [], ◌∷◌, ◌++◌, map, length, Option, Some, None, refl, sym, ap, ◌∙◌, subst, true≢false}
use Rattle.std.specs.Str.{bytes_eq}
use Rattle.std.proofs.lemmas.Slice.Eq.{bytes_eq-Decides}
use Rattle.ob_object.specs.declared.kind.Kind.{Kind}
use Rattle.ob_object.specs.declared.head.Head.{Head}
use Rattle.ob_object.specs.Kinds.{is_ref, has_values, is_err}
use Rattle.ob_object.specs.Object.{Object, Objects, none, node, listed, in_row, in_row-listed}
use Rattle.ob_object.specs.Paths.{is_path, node_path}
use Rattle.ob_contracts.specs.Inherit.{Contracts, Words, or_else, only_if, sources, overridden, implied_by, inherited_head, row_results, result_of, missing, bare, bare_row, row_with_defaults, effective_of}
use Rattle.ob_site_rules.specs.Build.{Path}
use Rattle.ob_site_rules.specs.Shown.{lobby_children, write_point_op, history_part, subject_children, derived, with_status_by, with_status_at, with_status, with_roles, dressed, shown_root, node_in, shown, rule_of}
use Rattle.ob_site_rules.specs.State.{Log as SiteLog, State as SiteState, at, is_among}
use Rattle.ob_site_rules.specs.declared.plan.Plan.{Plan}
use Rattle.ob_plain_state.specs.States.{IsOfKindAt, NodesAre}

module _ (kind_at : Path → Kind) where
  -- an object of a value kind with a path is of the kind of that path
  abbrev pub Good : Option Path → Kind → Type 0
  Good None k = Unit {0}
  Good (Some p) k = has_values k ≡ true → k ≡ kind_at p

  abbrev pub AllGood : Objects → Type 0
  AllGood none = Unit {0}
  AllGood (node h inner rest) = Good (node_path h) h.kind × AllGood inner × AllGood rest

  good_append : (xs ys : List Object) → AllGood (in_row xs) → AllGood (in_row ys) → AllGood (in_row (xs ++ ys))
  good_append [] ys g k = k
  good_append (x ∷ xs) ys g k = (g.0, g.1, good_append xs ys g.2 k)

  good_listed : (r : Objects) → AllGood r → AllGood (in_row (listed r))
  good_listed r g = subst AllGood (sym (in_row-listed r)) g

  good_of : (o : Option Path) (k : Kind) → IsOfKindAt kind_at o k → Good o k
  good_of None k is = tt
  good_of (Some p) k is = λ v. is

  pub good_nodes : (r : Objects) → NodesAre kind_at r → AllGood r
  good_nodes none n = tt
  good_nodes (node h inner rest) n = (good_of (node_path h) h.kind n.0, good_nodes inner n.1, good_nodes rest n.2)

  good_if : (b : Bool) (os : List Object) → AllGood (in_row os) → AllGood (in_row (cond b os []))
  good_if true os g = g
  good_if false os g = tt

  unvalued : {A : Type 0} → false ≡ true → A
  unvalued e = absurd (true≢false (sym e))

  good_history : (p : Path) (o : Option SiteLog) → AllGood (in_row (history_part p o))
  good_history p None = tt
  good_history p (Some l) = (tt, tt, (tt, tt, (tt, tt, ((λ e. unvalued e), tt, ((λ e. unvalued e), tt, tt)))))

  good_derived : (plan : Plan) (s : SiteState) (o : Option Path) → AllGood (in_row (derived plan s o))
  good_derived plan s None = tt
  good_derived plan s (Some p) =
      good_append (cond (plan.lobby && bytes_eq p plan.root) (lobby_children plan) []) _
      (good_if (plan.lobby && bytes_eq p plan.root) (lobby_children plan) (tt, tt, ((λ e. unvalued e), tt, (tt, tt, tt))))
      (good_append (cond (is_among p plan.points) (write_point_op p ∷ []) []) _
      (good_if (is_among p plan.points) (write_point_op p ∷ []) ((λ e. unvalued e), tt, tt))
      (good_append (history_part p (at p s.logs)) _ (good_history p (at p s.logs))
      (good_if (is_path p plan.subject) (subject_children p (length s.alarms)) (tt, tt, ((λ e. unvalued e), tt, ((λ e. unvalued e), tt, tt))))))

  same_by : (plan : Plan) (s : SiteState) (h : Head) (r : Option ℕ) → (node_path (with_status_by plan s h r) ≡ node_path h) × ((with_status_by plan s h r).kind ≡ h.kind)
  same_by plan s h None = (refl, refl)
  same_by plan s h (Some r) = (refl, refl)

  same_at : (plan : Plan) (s : SiteState) (h : Head) (o : Option Path) → (node_path (with_status_at plan s h o) ≡ node_path h) × ((with_status_at plan s h o).kind ≡ h.kind)
  same_at plan s h None = (refl, refl)
  same_at plan s h (Some p) = same_by plan s h (rule_of plan p)

  good_status : (plan : Plan) (s : SiteState) (h : Head) → Good (node_path h) h.kind → Good (node_path (with_status plan s h)) (with_status plan s h).kind
  good_status plan s h g =
      let e = same_at plan s h (node_path h) in
      subst (λ (k : Kind). Good (node_path (with_status plan s h)) k) (sym e.1)
      (subst (λ (o : Option Path). Good o h.kind) (sym e.0) g)

  good_roles : (plan : Plan) (s : SiteState) (r : Objects) → AllGood r → AllGood (with_roles plan s r)
  good_roles plan s none g = tt
  good_roles plan s (node h inner rest) g = (
    good_status plan s h g.0,
    good_append (listed (with_roles plan s inner)) (derived plan s (node_path h))
        (good_listed (with_roles plan s inner) (good_roles plan s inner g.1))
        (good_derived plan s (node_path h)),
    good_roles plan s rest g.2,
  )

  good_none : (b : Bool) (k : Kind) → Good (cond b None None) k
  good_none true k = tt
  good_none false k = tt

  good_bare_row : (r : Objects) → AllGood (bare_row r)
  good_bare_row none = tt
  good_bare_row (node h inner rest) = (good_none (not (is_ref h.kind || is_err h.kind)) h.kind, good_bare_row inner, good_bare_row rest)

  good_bare : (os : List Object) → AllGood (in_row (map bare os))
  good_bare [] = tt
  good_bare (o ∷ os) = (good_none (not (is_ref o.head.kind || is_err o.head.kind)) o.head.kind, good_bare_row o.inner, good_bare os)

  good_results : (lib : Contracts) (implied : Option Words) (above : List Object) (r : Objects) → AllGood r → AllGood (row_results lib implied above r)
  good_results lib implied above none g = tt
  good_results lib implied above (node h inner rest) g =
      let from = sources lib h implied (overridden h.name above) in
      let own = row_results lib (implied_by (inherited_head h from)) from inner in (
        g.0,
        good_append (listed own) (map bare (missing (listed inner) from))
            (good_listed own (good_results lib (implied_by (inherited_head h from)) from inner g.1))
            (good_bare (missing (listed inner) from)),
        good_results lib implied above rest g.2,
      )

  good_defaults : (r : Objects) → AllGood r → AllGood (row_with_defaults r)
  good_defaults none g = tt
  good_defaults (node h inner rest) g = (g.0, good_defaults inner g.1, good_defaults rest g.2)

  abbrev row_of : Object → Objects
  row_of o = node o.head o.inner none

  good_result : (lib : Contracts) (o : Object) → AllGood (row_of o) → AllGood (row_of (effective_of lib o None None))
  unfolding result_of
  good_result lib o g =
      let from = sources lib o.head None None in
      let own = row_results lib (implied_by (inherited_head o.head from)) from o.inner in (
        g.0,
        good_defaults (in_row (listed own ++ map bare (missing (listed o.inner) from)))
            (good_append (listed own) (map bare (missing (listed o.inner) from))
            (good_listed own (good_results lib (implied_by (inherited_head o.head from)) from o.inner g.1))
            (good_bare (missing (listed o.inner) from))),
        tt,
      )

  pub good_shown : (plan : Plan) (s : SiteState) → AllGood (row_of s.tree) → AllGood (row_of (shown_root plan s))
  good_shown plan s g = good_result s.library (dressed plan s) (good_roles plan s (row_of s.tree) g)

  good_here : (p : Path) (o : Option Path) (k : Kind) → Good o k → is_path p o ≡ true → has_values k ≡ true → k ≡ kind_at p
  good_here p None k g is v = absurd (true≢false (sym is))
  good_here p (Some q) k g is v = g v ∙ ap kind_at ((bytes_eq-Decides q p).0 is)

  found_here : (b : Bool) (p : Path) (x o : Object) (r : Option Object) → (b ≡ true → has_values x.head.kind ≡ true → x.head.kind ≡ kind_at p)
      → (r ≡ Some o → has_values o.head.kind ≡ true → o.head.kind ≡ kind_at p)
      → or_else (only_if b (Some x)) r ≡ Some o → has_values o.head.kind ≡ true → o.head.kind ≡ kind_at p
  found_here true p x o r here later e =
      let same : x ≡ o = cc in
      subst (λ (y : Object). has_values y.head.kind ≡ true → y.head.kind ≡ kind_at p) same (here refl)
  found_here false p x o r here later e = later e

  found_either : (p : Path) (o : Object) (a r : Option Object) → (a ≡ Some o → has_values o.head.kind ≡ true → o.head.kind ≡ kind_at p)
      → (r ≡ Some o → has_values o.head.kind ≡ true → o.head.kind ≡ kind_at p) → or_else a r ≡ Some o → has_values o.head.kind ≡ true → o.head.kind ≡ kind_at p
  found_either p o None r here later e = later e
  found_either p o (Some x) r here later e = here e

  pub found_kind : (p : Path) (o : Object) (r : Objects) → AllGood r → node_in p r ≡ Some o → has_values o.head.kind ≡ true → o.head.kind ≡ kind_at p
  found_kind p o none g e = absurd cc
  found_kind p o (node h inner rest) g e =
      found_here (is_path p (node_path h)) p (record { head = h; inner = inner }) o _ (λ is v. good_here p (node_path h) h.kind g.0 is v)
      (found_either p o (node_in p inner) (node_in p rest) (found_kind p o inner g.1) (found_kind p o rest g.2)) e

  -- what is shown at a path, if it is of a value kind, is of the kind of that path
  pub shown_kind : (plan : Plan) (s : SiteState) (p : Path) (o : Object) → NodesAre kind_at (node s.tree.head s.tree.inner none) → shown plan s p ≡ Some o → has_values o.head.kind ≡ true → o.head.kind ≡ kind_at p
  shown_kind plan s p o nodes e = found_kind p o (row_of (shown_root plan s)) (good_shown plan s (good_nodes (row_of s.tree) nodes)) e
