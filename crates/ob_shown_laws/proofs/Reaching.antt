-- What a watch shows has changed exactly where a node that shows itself otherwise is the watched one or is in it.
use Rattle.std.proofs.Common.{ℕ, ◌≡◌, Bool, true, false, not, ◌&&◌, ◌||◌, cond, List, [], ◌∷◌, ◌++◌, length, Option, Some, None, option_map, refl, sym, ap, ap₂, ◌∙◌, subst}
use Rattle.std.specs.Prelude.{is_some, unwrap_or, find}
use Rattle.std.specs.Str.{bytes_eq}
use Rattle.std.specs.List.{list_any}
use Rattle.std.proofs.lemmas.Slice.Eq.{bytes_eq-Decides}
use Rattle.ob_object.specs.declared.head.Head.{Head}
use Rattle.ob_object.specs.Object.{Objects, none, node, Object, listed, in_row, in_row-listed}
use Rattle.ob_object.specs.Paths.{is_path, node_path}
use Rattle.ob_contracts.specs.Inherit.{Contracts, or_else, only_if, overridden, result_of}
use Rattle.ob_site_rules.specs.Build.{Text, Path}
use Rattle.ob_site_rules.specs.Shown.{lobby_children, write_point_op, subject_children, history_part, derived, rule_of, with_status_by, with_status_at, with_status, with_roles, dressed}
use Rattle.ob_site_rules.specs.State.{Log, State, at, is_among}
use Rattle.ob_site_rules.specs.declared.plan.Plan.{Plan}
use Rattle.ob_site_rules.specs.Entries.{empty_object}
use Rattle.ob_site_rules.specs.Sites.{plain_or_empty, watched_object}
use Rattle.ob_site_rules.specs.Sameness.{same_object}
use Rattle.ob_shown_laws.specs.Alike.{without_slot, without_values, AreAlike, DifferInSlots, paths_of}
use Rattle.ob_tree.specs.Contexts.{Context, HandedDown, handed_down, under, comes_to}
use Rattle.ob_shown_laws.specs.Standing.{Standing, effective, standing_in, root_standing, standing_at}
use Rattle.ob_shown_laws.specs.Changed.{same_node, same_standing, is_in, is_watchable, reaches, ChangesReachWatched}
use Rattle.ob_shown_laws.proofs.Standings.{or_else-none, node_of-effective}
use Rattle.ob_shown_laws.proofs.Itself.{object_itself}
use Rattle.ob_shown_laws.proofs.Alikes.{under_alike, handed_alike, watched, same_watched}
use Rattle.ob_shown_laws.proofs.Touches.{holds_at, any_in, TellsAt, TellsIn, node_by_nodes, path_alike, in_alike, there, tells_nodes}

-- dressed trees of states that differ in values are alike
pub status_off : (plan : Plan) (s : State) (h : Head) (o : Option Path) → without_values (with_status_at plan s h o) ≡ without_values h
status_off plan s h None = refl
status_off plan s h (Some p) = by_rule (rule_of plan p)
  where
    by_rule : (r : Option ℕ) → without_values (with_status_by plan s h r) ≡ without_values h
    by_rule None = refl
    by_rule (Some r) = refl

pub status_alike : (plan : Plan) (s t : State) (h k : Head) → without_slot h ≡ without_slot k → without_values (with_status plan s h) ≡ without_values (with_status plan t k)
status_alike plan s t h k e =
    status_off plan s h (node_path h) ∙ ap (λ (u : Head). without_values u) e ∙ sym (status_off plan t k (node_path k))

pub alike_append : (xs ys zs ws : List Object) → AreAlike (in_row xs) (in_row ys) → AreAlike (in_row zs) (in_row ws) → AreAlike (in_row (xs ++ zs)) (in_row (ys ++ ws))
alike_append [] [] zs ws a b = b
alike_append [] (y ∷ ys) zs ws a b = absurd a
alike_append (x ∷ xs) [] zs ws a b = absurd a
alike_append (x ∷ xs) (y ∷ ys) zs ws a b = (a.0, a.1, alike_append xs ys zs ws a.2 b)

pub alike_itself : (r : Objects) → AreAlike r r
alike_itself none = tt
alike_itself (node h below rest) = (refl, alike_itself below, alike_itself rest)

at_or : (b : Bool) (e : Path × Log) (r : Option (Path × Log)) → is_some (option_map (λ x. x.1) (cond b (Some e) r)) ≡ (b || is_some (option_map (λ x. x.1) r))
at_or true e r = refl
at_or false e r = refl

pub at-paths : (p : Path) (ls : List (Path × Log)) → is_some (at p ls) ≡ list_any (λ k. bytes_eq k p) (paths_of ls)
at-paths p [] = refl
at-paths p (l ∷ ls) = at_or (bytes_eq l.0 p) l (find (λ x. bytes_eq x.0 p) ls) ∙ ap (λ b. bytes_eq l.0 p || b) (at-paths p ls)

pub at_both : (p : Path) (ls ms : List (Path × Log)) → paths_of ls ≡ paths_of ms → is_some (at p ls) ≡ is_some (at p ms)
at_both p ls ms e = at-paths p ls ∙ ap (list_any (λ k. bytes_eq k p)) e ∙ sym (at-paths p ms)

pub history_alike : (p : Path) (o q : Option Log) → is_some o ≡ is_some q → AreAlike (in_row (history_part p o)) (in_row (history_part p q))
history_alike p None None e = tt
history_alike p None (Some m) e = absurd cc
history_alike p (Some l) None e = absurd cc
history_alike p (Some l) (Some m) e = (refl, tt, (refl, tt, (refl, tt, (refl, tt, (refl, tt, tt)))))

subject_alike : (b : Bool) (p : Path) (n m : ℕ) → AreAlike (in_row (cond b (subject_children p n) [])) (in_row (cond b (subject_children p m) []))
subject_alike true p n m = (refl, tt, (refl, tt, (refl, tt, tt)))
subject_alike false p n m = tt

pub derived_alike : (plan : Plan) (s t : State) → paths_of s.logs ≡ paths_of t.logs → (o : Option Path) → AreAlike (in_row (derived plan s o)) (in_row (derived plan t o))
derived_alike plan s t e None = tt
derived_alike plan s t e (Some p) =
    let lobby : List Object = cond (plan.lobby && bytes_eq p plan.root) (lobby_children plan) [] in
    let point : List Object = cond (is_among p plan.points) (write_point_op p ∷ []) [] in
    alike_append lobby lobby _ _ (alike_itself (in_row lobby))
    (alike_append point point _ _ (alike_itself (in_row point))
    (alike_append (history_part p (at p s.logs)) (history_part p (at p t.logs)) _ _ (history_alike p (at p s.logs) (at p t.logs) (at_both p s.logs t.logs e))
    (subject_alike (is_path p plan.subject) p (length s.alarms) (length t.alarms))))

slot_path : (h k : Head) → without_slot h ≡ without_slot k → node_path h ≡ node_path k
slot_path h k e = ap (λ (u : Head). node_path u) e

pub alike_listed : (r q : Objects) → AreAlike r q → AreAlike (in_row (listed r)) (in_row (listed q))
alike_listed r q a = subst (λ (x : Objects). AreAlike x (in_row (listed q))) (sym (in_row-listed r)) (subst (λ (x : Objects). AreAlike r x) (sym (in_row-listed q)) a)

pub roles_alike : (plan : Plan) (s t : State) → paths_of s.logs ≡ paths_of t.logs → (os qs : Objects) → DifferInSlots os qs → AreAlike (with_roles plan s os) (with_roles plan t qs)
roles_alike plan s t e none none d = tt
roles_alike plan s t e none (node k inner more) d = absurd d
roles_alike plan s t e (node h below rest) none d = absurd d
roles_alike plan s t e (node h below rest) (node k inner more) d = (
  status_alike plan s t h k d.0,
  alike_append (listed (with_roles plan s below)) (listed (with_roles plan t inner)) (derived plan s (node_path h)) (derived plan t (node_path k))
      (alike_listed (with_roles plan s below) (with_roles plan t inner) (roles_alike plan s t e below inner d.2))
      (subst (λ (o : Option Path). AreAlike (in_row (derived plan s (node_path h))) (in_row (derived plan t o))) (slot_path h k d.0) (derived_alike plan s t e (node_path h))),
  roles_alike plan s t e rest more d.3,
)

-- what a watch shows of a node that was found, or not
abbrev pub as_watched : Option Standing → Object
as_watched o = plain_or_empty (watched (unwrap_or (option_map effective o) empty_object))

-- a test holds of a node that is watched, or of one in it
abbrev pub reached : (Path → Bool) → Option Standing → Bool
reached test None = false
reached test (Some x) = is_watchable x.object.head && (holds_at test (node_path x.object.head) || any_in test x.object.inner)

some_path : (p : Path) (o : Option Path) → is_path p o ≡ true → (q : Path) × (o ≡ Some q)
some_path p None e = absurd cc
some_path p (Some q) e = (q, refl)

plain_or : (b : Bool) (u v e : Object) (d : Bool) → same_object u v ≡ not d → same_object e e ≡ true → same_object (cond b u e) (cond b v e) ≡ not (b && d)
plain_or true u v e d f g = f
plain_or false u v e d f g = g

at_found : (test : Path → Bool) (p : Path) (c : Context) (h k : Head) (below inner : Objects) → without_values h ≡ without_values k → AreAlike below inner
    → TellsAt test (node_path h) (same_node c (record { head = h; inner = below }) (record { head = k; inner = inner })) → TellsIn test (handed_down c h) below inner
    → is_path p (node_path h) ≡ true
    → same_object (as_watched (Some (record { context = c; object = record { head = h; inner = below } }))) (as_watched (Some (record { context = c; object = record { head = k; inner = inner } })))
    ≡ not (reached test (Some (record { context = c; object = record { head = h; inner = below } })))
unfolding result_of
at_found test p c h k below inner e a here deep is =
    let path = some_path p (node_path h) is in
    let o : Object = record { head = h; inner = below } in
    let q : Object = record { head = k; inner = inner } in
    ap (λ (b : Bool). same_object (as_watched (Some (record { context = c; object = o }))) (cond b (watched (comes_to c q)) empty_object))
    (sym (ap (λ (u : Head). is_watchable u) e))
    ∙ plain_or (is_watchable h) (watched (comes_to c o)) (watched (comes_to c q)) empty_object (holds_at test (node_path h) || any_in test below)
    (same_watched c o q e a ∙ node_by_nodes test c h k below inner path.0 path.1 a here deep)
    (object_itself empty_object)

found_same : (test : Path → Bool) (p : Path) (r : HandedDown) (os qs : Objects) → AreAlike os qs → TellsIn test r os qs
    → same_object (as_watched (standing_in p r os)) (as_watched (standing_in p r qs)) ≡ not (reached test (standing_in p r os))
found_same test p r none none a t = object_itself (as_watched None)
found_same test p r none (node k inner more) a t = absurd a
found_same test p r (node h below rest) none a t = absurd a
found_same test p r (node h below rest) (node k inner more) a t =
    ap (λ o. same_object (as_watched (standing_in p r (node h below rest))) (as_watched o)) as_first
    ∙ go (is_path p (node_path h)) (standing_in p d below) (standing_in p d inner) (standing_in p r rest) (standing_in p r more)
    (there p d below ∙ in_alike p below inner a.1 ∙ sym (there p d inner))
    (at_found test p c h k below inner a.0 a.1 t.0 t.1)
    (found_same test p d below inner a.1 t.1)
    (found_same test p r rest more a.2 t.2)
  where
    c : Context
    c = under r h.name

    d : HandedDown
    d = handed_down (under r h.name) h

    x : Standing
    x = record { context = c; object = record { head = h; inner = below } }

    y : Context → Standing
    y e = record { context = e; object = record { head = k; inner = inner } }

    as_first : standing_in p r (node k inner more) ≡ or_else (only_if (is_path p (node_path h)) (Some (y c))) (or_else (standing_in p d inner) (standing_in p r more))
    as_first =
        ap (λ (o : Option Path). or_else (only_if (is_path p o) (Some (y (under r k.name)))) (or_else (standing_in p (handed_down (under r k.name) k) inner) (standing_in p r more))) (sym (path_alike h k a.0))
        ∙ ap (λ (e : Context). or_else (only_if (is_path p (node_path h)) (Some (y e))) (or_else (standing_in p (handed_down e k) inner) (standing_in p r more))) (under_alike r h k a.0)
        ∙ ap (λ (e : HandedDown). or_else (only_if (is_path p (node_path h)) (Some (y c))) (or_else (standing_in p e inner) (standing_in p r more))) (handed_alike c h k a.0)

    go : (b : Bool) (i j l m : Option Standing) → is_some i ≡ is_some j
        → (b ≡ true → same_object (as_watched (Some x)) (as_watched (Some (y c))) ≡ not (reached test (Some x)))
        → same_object (as_watched i) (as_watched j) ≡ not (reached test i)
        → same_object (as_watched l) (as_watched m) ≡ not (reached test l)
        → same_object (as_watched (or_else (only_if b (Some x)) (or_else i l))) (as_watched (or_else (only_if b (Some (y c))) (or_else j m))) ≡ not (reached test (or_else (only_if b (Some x)) (or_else i l)))
    go true i j l m e own deep behind = own refl
    go false (Some u) (Some v) l m e own deep behind = deep
    go false (Some u) None l m e own deep behind = absurd cc
    go false None (Some v) l m e own deep behind = absurd cc
    go false None None l m e own deep behind = behind

-- the root as the one object of a row
abbrev pub root_row : Contracts → HandedDown
root_row lib = record { library = lib; implied = None; sources = [] }

none_above : (name : Option Text) → overridden name [] ≡ None
none_above None = refl
none_above (Some n) = refl

abbrev row_of : Object → Objects
row_of o = node o.head o.inner none

pub at_row : (plan : Plan) (s : State) (p : Path) → standing_at plan s p ≡ standing_in p (root_row s.library) (row_of (dressed plan s))
at_row plan s p =
    let o : Object = dressed plan s in
    ap (λ (c : Context). or_else (only_if (is_path p (node_path o.head)) (Some (record { context = c; object = o }))) (standing_in p (handed_down c o.head) o.inner))
    (sym (ap (λ (over : Option Object). let c : Context = record { library = s.library; implied = None; over = over } in c) (none_above o.head.name)))
    ∙ ap (or_else (only_if (is_path p (node_path o.head)) (Some (record { context = under (root_row s.library) o.head.name; object = o }))))
    (sym (or_else-none (standing_in p (handed_down (under (root_row s.library) o.head.name) o.head) o.inner)))

pub at_row_of : (plan : Plan) (s t : State) (p : Path) → s.library ≡ t.library → standing_at plan t p ≡ standing_in p (root_row s.library) (row_of (dressed plan t))
at_row_of plan s t p e = at_row plan t p ∙ ap (λ (lib : Contracts). standing_in p (root_row lib) (row_of (dressed plan t))) (sym e)

-- a list of paths as a test
pub bytes_sym : (a b : Path) → bytes_eq a b ≡ bytes_eq b a
bytes_sym a b = both (bytes_eq a b) (bytes_eq b a) (λ e. (bytes_eq-Decides b a).1 (sym ((bytes_eq-Decides a b).0 e))) (λ e. (bytes_eq-Decides a b).1 (sym ((bytes_eq-Decides b a).0 e)))
  where
    both : (x y : Bool) → (x ≡ true → y ≡ true) → (y ≡ true → x ≡ true) → x ≡ y
    both true y f g = sym (f refl)
    both false true f g = g refl
    both false false f g = refl

holds_none : (o : Option Path) → holds_at (λ q. false) o ≡ false
holds_none None = refl
holds_none (Some q) = refl

any_none : (r : Objects) → any_in (λ q. false) r ≡ false
any_none none = refl
any_none (node h inner rest) = ap₂ (λ a b. a || b) (holds_none (node_path h)) (ap₂ (λ a b. a || b) (any_none inner) (any_none rest))

holds_either : (f g : Path → Bool) (o : Option Path) → holds_at (λ q. f q || g q) o ≡ (holds_at f o || holds_at g o)
holds_either f g None = refl
holds_either f g (Some q) = refl

or_middle : (a b c d : Bool) → ((a || b) || (c || d)) ≡ ((a || c) || (b || d))
or_middle true b c d = refl
or_middle false true true d = refl
or_middle false true false d = refl
or_middle false false c d = refl

any_either : (f g : Path → Bool) (r : Objects) → any_in (λ q. f q || g q) r ≡ (any_in f r || any_in g r)
any_either f g none = refl
any_either f g (node h inner rest) =
    ap₂ (λ a b. a || b) (holds_either f g (node_path h))
    (ap₂ (λ a b. a || b) (any_either f g inner) (any_either f g rest) ∙ or_middle (any_in f inner) (any_in g inner) (any_in f rest) (any_in g rest))
    ∙ or_middle (holds_at f (node_path h)) (holds_at g (node_path h)) (any_in f inner || any_in f rest) (any_in g inner || any_in g rest)

holds_one : (p : Path) (o : Option Path) → holds_at (bytes_eq p) o ≡ is_path p o
holds_one p None = refl
holds_one p (Some q) = bytes_sym p q

any_one : (p : Path) (r : Objects) → any_in (bytes_eq p) r ≡ is_in p r
any_one p none = refl
any_one p (node h inner rest) = ap₂ (λ a b. a || b) (holds_one p (node_path h)) (ap₂ (λ a b. a || b) (any_one p inner) (any_one p rest))

among_any : (touched : List Path) (o : Option Path) (r : Objects) → (holds_at (λ q. is_among q touched) o || any_in (λ q. is_among q touched) r) ≡ list_any (λ p. is_path p o || is_in p r) touched
among_any [] o r = ap₂ (λ a b. a || b) (holds_none o) (any_none r)
among_any (p ∷ ps) o r =
    ap₂ (λ a b. a || b) (holds_either (bytes_eq p) (λ q. is_among q ps) o) (any_either (bytes_eq p) (λ q. is_among q ps) r)
    ∙ or_middle (holds_at (bytes_eq p) o) (holds_at (λ q. is_among q ps) o) (any_in (bytes_eq p) r) (any_in (λ q. is_among q ps) r)
    ∙ ap₂ (λ a b. a || b) (ap₂ (λ a b. a || b) (holds_one p o) (any_one p r)) (among_any ps o r)

reached_by : (touched : List Path) (o : Option Standing) → reached (λ q. is_among q touched) o ≡ reaches touched o
reached_by touched None = refl
reached_by touched (Some x) = ap (λ b. is_watchable x.object.head && b) (among_any touched (node_path x.object.head) x.object.inner)

watched_at : (plan : Plan) (s : State) (p : Path) → watched_object plan s p ≡ as_watched (standing_at plan s p)
watched_at plan s p = ap (λ (o : Option Object). plain_or_empty (watched (unwrap_or o empty_object))) (node_of-effective p (root_standing plan s))

pub changes_reach : ChangesReachWatched
changes_reach plan s t values paths touched are p =
    let row : HandedDown = root_row s.library in
    let os : Objects = row_of (dressed plan s) in
    let qs : Objects = row_of (dressed plan t) in
    let alike : AreAlike os qs = roles_alike plan s t values.histories (node s.tree.head s.tree.inner none) (node t.tree.head t.tree.inner none) values.tree in
    let tells : TellsIn (λ q. is_among q touched) row os qs =
    tells_nodes (λ q. is_among q touched) row os qs alike paths
    (λ q _. are q ∙ ap₂ (λ u v. not (same_standing u v)) (at_row plan s q) (at_row_of plan s t q values.library)) in
    ap₂ (λ (a b : Object). same_object a b) (watched_at plan s p ∙ ap as_watched (at_row plan s p)) (watched_at plan t p ∙ ap as_watched (at_row_of plan s t p values.library))
    ∙ found_same (λ q. is_among q touched) p row os qs alike tells
    ∙ ap (λ o. not (reached (λ q. is_among q touched) o)) (sym (at_row plan s p))
    ∙ ap not (reached_by touched (standing_at plan s p))
