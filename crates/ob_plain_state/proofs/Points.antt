-- A node of the tree is shown.
use Rattle.std.proofs.Common.{◌≡◌, ℕ, Bool, true, false, ◌||◌, List, [], ◌∷◌, ◌++◌, map, Option, Some, None, refl, sym, ap, ◌∙◌, true≢false}
use Rattle.std.specs.Prelude.{is_some}
use Rattle.ob_values.proofs.Bools.{or_first, or_second}
use Rattle.ob_object.specs.Object.{Object, Objects, none, node, listed, in_row, in_row-listed}
use Rattle.ob_object.specs.declared.head.Head.{Head}
use Rattle.ob_object.specs.Paths.{is_path, node_path}
use Rattle.ob_contracts.specs.Inherit.{Contracts, Words, sources, overridden, implied_by, inherited_head, row_results, result_of, missing, bare, row_with_defaults, effective_of}
use Rattle.ob_site_rules.specs.Build.{Path}
use Rattle.ob_site_rules.specs.Shown.{derived, with_status_by, with_status_at, with_status, with_roles, dressed, shown_root, node_of, shown, rule_of}
use Rattle.ob_site_rules.specs.State.{State as SiteState, is_among}
use Rattle.ob_site_rules.specs.declared.plan.Plan.{Plan}
use Rattle.ob_plain_state.proofs.Kept.{is_in, in_row_there}

or_both : (a b c d : Bool) → (a ≡ true → c ≡ true) → (b ≡ true → d ≡ true) → (a || b) ≡ true → (c || d) ≡ true
or_both true b c d f g h = or_first c d (f refl)
or_both false b c d f g h = or_second c d (g h)

in_front : (q : Path) (xs ys : List Object) → is_in q (in_row xs) ≡ true → is_in q (in_row (xs ++ ys)) ≡ true
in_front q [] ys h = absurd (true≢false (sym h))
in_front q (x ∷ xs) ys h =
    or_both (is_path q (node_path x.head)) _ (is_path q (node_path x.head)) _ (λ e. e)
    (or_both (is_in q x.inner) (is_in q (in_row xs)) (is_in q x.inner) (is_in q (in_row (xs ++ ys))) (λ e. e) (in_front q xs ys)) h

in_listed : (q : Path) (r : Objects) (more : List Object) → is_in q r ≡ true → is_in q (in_row (listed r ++ more)) ≡ true
in_listed q r more h = in_front q (listed r) more (ap (is_in q) (in_row-listed r) ∙ h)

path_by : (plan : Plan) (s : SiteState) (h : Head) (r : Option ℕ) → node_path (with_status_by plan s h r) ≡ node_path h
path_by plan s h None = refl
path_by plan s h (Some r) = refl

path_at : (plan : Plan) (s : SiteState) (h : Head) (o : Option Path) → node_path (with_status_at plan s h o) ≡ node_path h
path_at plan s h None = refl
path_at plan s h (Some p) = path_by plan s h (rule_of plan p)

in_roles : (plan : Plan) (s : SiteState) (q : Path) (r : Objects) → is_in q r ≡ true → is_in q (with_roles plan s r) ≡ true
in_roles plan s q none h = h
in_roles plan s q (node h inner rest) there =
    or_both (is_path q (node_path h)) (is_in q inner || is_in q rest) (is_path q (node_path (with_status plan s h))) _
    (λ e. ap (is_path q) (path_at plan s h (node_path h)) ∙ e)
    (or_both (is_in q inner) (is_in q rest) _ (is_in q (with_roles plan s rest))
    (λ e. in_listed q (with_roles plan s inner) (derived plan s (node_path h)) (in_roles plan s q inner e))
    (in_roles plan s q rest)) there

in_results : (q : Path) (lib : Contracts) (implied : Option Words) (above : List Object) (r : Objects) → is_in q r ≡ true → is_in q (row_results lib implied above r) ≡ true
in_results q lib implied above none h = h
in_results q lib implied above (node h inner rest) there =
    let from = sources lib h implied (overridden h.name above) in
    or_both (is_path q (node_path h)) (is_in q inner || is_in q rest) (is_path q (node_path h)) _ (λ e. e)
    (or_both (is_in q inner) (is_in q rest) _ (is_in q (row_results lib implied above rest))
    (λ e. in_listed q (row_results lib (implied_by (inherited_head h from)) from inner) (map bare (missing (listed inner) from)) (in_results q lib (implied_by (inherited_head h from)) from inner e))
    (in_results q lib implied above rest)) there

in_defaults : (q : Path) (r : Objects) → is_in q r ≡ true → is_in q (row_with_defaults r) ≡ true
in_defaults q none h = h
in_defaults q (node h inner rest) there =
    or_both (is_path q (node_path h)) (is_in q inner || is_in q rest) (is_path q (node_path h)) _ (λ e. e)
    (or_both (is_in q inner) (is_in q rest) (is_in q (row_with_defaults inner)) (is_in q (row_with_defaults rest)) (in_defaults q inner) (in_defaults q rest)) there

abbrev row_of : Object → Objects
row_of o = node o.head o.inner none

in_effective : (q : Path) (lib : Contracts) (o : Object) → is_in q (row_of o) ≡ true → is_in q (row_of (effective_of lib o None None)) ≡ true
unfolding result_of
in_effective q lib o there =
    let from = sources lib o.head None None in
    or_both (is_path q (node_path o.head)) (is_in q o.inner || false) (is_path q (node_path o.head)) _ (λ e. e)
    (or_both (is_in q o.inner) false _ false
    (λ e. in_defaults q (in_row (listed (row_results lib (implied_by (inherited_head o.head from)) from o.inner) ++ map bare (missing (listed o.inner) from))) (in_listed q (row_results lib (implied_by (inherited_head o.head from)) from o.inner) (map bare (missing (listed o.inner) from)) (in_results q lib (implied_by (inherited_head o.head from)) from o.inner e)))
    (λ e. e)) there

-- a node of the tree is shown at its path
pub node_shown : (plan : Plan) (s : SiteState) (q : Path) → is_some (node_of q s.tree) ≡ true → is_some (shown plan s q) ≡ true
node_shown plan s q there =
    in_row_there q (row_of (shown_root plan s))
    ∙ in_effective q s.library (dressed plan s) (in_roles plan s q (row_of s.tree) (sym (in_row_there q (row_of s.tree)) ∙ there))
