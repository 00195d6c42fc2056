-- What another library changes reaches what is round it, and doesn't depend on the values that are given.
use Rattle.std.proofs.Common.{◌≡◌, Bool, true, false, ◌||◌, List, ◌++◌, map, Option, Some, None, refl, sym, ap, ap₂, ◌∙◌, true≢false}
use Rattle.std.specs.Prelude.{is_some}
use Rattle.ob_values.proofs.Bools.{or_second, or_first, is_false, bool_same}
use Rattle.ob_object.specs.declared.head.Head.{Head}
use Rattle.ob_object.specs.declared.head.Slot.{Slot}
use Rattle.ob_object.specs.declared.head.Slot.TheVariants.{Absent, Null, Is}
use Rattle.ob_object.specs.Object.{Objects, none, node, Object, listed, in_row}
use Rattle.ob_object.specs.Paths.{is_path, node_path}
use Rattle.ob_contracts.specs.Inherit.{Contracts, or_else, only_if, bare, missing, result_of, row_with_defaults}
use Rattle.ob_site_rules.specs.Build.{Path}
use Rattle.ob_site_rules.specs.Shown.{dressed}
use Rattle.ob_site_rules.specs.State.{State}
use Rattle.ob_site_rules.specs.declared.plan.Plan.{Plan}
use Rattle.ob_site_rules.specs.Sites.{watched_object}
use Rattle.ob_site_laws.proofs.Same.{object_decides}
use Rattle.ob_tree.specs.Contexts.{Context, HandedDown, handed_down, under}
use Rattle.ob_shown_laws.specs.Alike.{row, without_values, AreAlike, DifferInSlots, DifferInValues}
use Rattle.ob_shown_laws.specs.Numbered.{root_row}
use Rattle.ob_shown_laws.specs.Standing.{Standing, standing_in}
use Rattle.ob_shown_laws.specs.Changed.{head_in, is_in, is_round, is_watchable, PathsDiffer}
use Rattle.ob_shown_laws.proofs.Standings.{own_row, effective_row}
use Rattle.ob_shown_laws.proofs.Alikes.{under_alike, handed_alike, head_in-alike, missing_names, names_alike}
use Rattle.ob_shown_laws.proofs.Touches.{in_alike, there}
use Rattle.ob_shown_laws.proofs.Reaching.{roles_alike, at_row, as_watched}
use Rattle.ob_shown_laws.proofs.Looking.{first_alike}
use Rattle.ob_step_laws.specs.Defaults.{defaults_off, StayGiven, DifferInDefaults, with_library, is_same}
use Rattle.ob_step_laws.specs.Reaching.{DefaultsReach, DefaultsStand}
use Rattle.ob_step_laws.proofs.Either.{Handed, Stands, stands_under, hands_down, status_same, one_head, behind, behind_rows, head_of, inner_of, rest_of, plain_or, shape, as_shape, watched_at, roles_library, roles_given}

-- an object that stands so
abbrev standing : Context → Head → Objects → Standing
standing c h below = record { context = c; object = record { head = h; inner = below } }

-- what is inherited of children, by the sources
abbrev behind_own : HandedDown → Objects → List Object
behind_own d below = map bare (missing (listed below) d.sources)

-- the first of two places that are there, or the one behind
either_same : (b : Bool) (x y : Standing) (u v i j : Option Standing) → is_some u ≡ is_some v → as_watched (Some x) ≡ as_watched (Some y) → as_watched u ≡ as_watched v → as_watched i ≡ as_watched j
    → as_watched (or_else (only_if b (Some x)) (or_else u i)) ≡ as_watched (or_else (only_if b (Some y)) (or_else v j))
either_same true x y u v i j e here deep later = here
either_same false x y (Some a) (Some c) i j e here deep later = deep
either_same false x y (Some a) None i j e here deep later = absurd cc
either_same false x y None (Some c) i j e here deep later = absurd cc
either_same false x y None None i j e here deep later = later

-- an object that shows itself and what is in it as before is watched as before
shapes_same : (c d : Context) (h : Head) (below : Objects) → head_in c h ≡ head_in d h → effective_row (handed_down c h) below ≡ effective_row (handed_down d h) below
    → as_watched (Some (standing c h below)) ≡ as_watched (Some (standing d h below))
shapes_same c d h below first second =
    as_shape c h below
    ∙ ap₂ (λ (u : Head) (v : Objects). plain_or (is_watchable h) (record { head = record u { name = None; href = None }; inner = v })) first second
    ∙ sym (as_shape d h below)

-- each node in a row that comes to the same is watched as before
in_same : (p : Path) (r q : HandedDown) (os : Objects) (xs ys : List Object) → behind (own_row r os) xs ≡ behind (own_row q os) ys → as_watched (standing_in p r os) ≡ as_watched (standing_in p q os)
unfolding result_of
in_same p r q none xs ys e = refl
in_same p r q (node h below rest) xs ys e =
    either_same (is_path p (node_path h)) (standing c h below) (standing c2 h below) (standing_in p d below) (standing_in p d2 below) (standing_in p r rest) (standing_in p q rest)
    (there p d below ∙ sym (there p d2 below))
    (shapes_same c c2 h below (ap (head_of h) e) (ap inner_of e))
    (in_same p d d2 below (behind_own d below) (behind_own d2 below) (ap inner_of e))
    (in_same p r q rest xs ys (ap rest_of e))
  where
    c : Context
    c = under r h.name

    c2 : Context
    c2 = under q h.name

    d : HandedDown
    d = handed_down c h

    d2 : HandedDown
    d2 = handed_down c2 h

some_same : {a b : Standing} → Some a ≡ Some b → a ≡ b
some_same e = cc

round_in : (p q : Path) (r : HandedDown) (os : Objects) (x : Standing) → standing_in p r os ≡ Some x → is_round q x.object ≡ true → is_in q os ≡ true
round_in p q r none x e f = absurd cc
round_in p q r (node h below rest) x e f =
    go (is_path p (node_path h)) (standing_in p d below) refl (λ g. round_in p q d below x g f) (λ g. round_in p q r rest x g f) e
  where
    c : Context
    c = under r h.name

    d : HandedDown
    d = handed_down c h

    here : (a i l : Bool) → (a || i) ≡ true → (a || (i || l)) ≡ true
    here true i l g = refl
    here false i l g = or_first i l g

    go : (b : Bool) (u : Option Standing) → standing_in p d below ≡ u → (standing_in p d below ≡ Some x → is_in q below ≡ true) → (standing_in p r rest ≡ Some x → is_in q rest ≡ true)
        → or_else (only_if b (Some (standing c h below))) (or_else u (standing_in p r rest)) ≡ Some x → is_in q (node h below rest) ≡ true
    go true u g deep later k =
        let same : standing c h below ≡ x = some_same k in
        here (is_path q (node_path h)) (is_in q below) (is_in q rest) (ap (λ (y : Standing). is_round q y.object) same ∙ f)
    go false (Some y) g deep later k = or_second (is_path q (node_path h)) (is_in q below || is_in q rest) (or_first (is_in q below) (is_in q rest) (deep (g ∙ k)))
    go false None g deep later k = or_second (is_path q (node_path h)) (is_in q below || is_in q rest) (or_second (is_in q below) (is_in q rest) (later k))

-- a node is found below, or behind
below_same : (q : Path) (r s d d2 : HandedDown) (h : Head) (below rest : Objects) (x y : Standing) → is_path q (node_path h) ≡ false → is_in q below ≡ true
    → as_watched (standing_in q d below) ≡ as_watched (standing_in q d2 below)
    → as_watched (or_else (only_if (is_path q (node_path h)) (Some x)) (or_else (standing_in q d below) (standing_in q r rest)))
    ≡ as_watched (or_else (only_if (is_path q (node_path h)) (Some y)) (or_else (standing_in q d2 below) (standing_in q s rest)))
below_same q r s d d2 h below rest x y off inside e =
    go (is_path q (node_path h)) (standing_in q d below) (standing_in q d2 below) off (there q d below ∙ inside) (there q d2 below ∙ inside) e
  where
    go : (b : Bool) (u v : Option Standing) → b ≡ false → is_some u ≡ true → is_some v ≡ true → as_watched u ≡ as_watched v
        → as_watched (or_else (only_if b (Some x)) (or_else u (standing_in q r rest))) ≡ as_watched (or_else (only_if b (Some y)) (or_else v (standing_in q s rest)))
    go true u v f g k e = absurd cc
    go false (Some a) (Some c) f g k e = e
    go false (Some a) None f g k e = absurd cc
    go false None v f g k e = absurd cc

behind_same : (q : Path) (r s d d2 : HandedDown) (h : Head) (below rest : Objects) (x y : Standing) → is_path q (node_path h) ≡ false → is_in q below ≡ false
    → as_watched (standing_in q r rest) ≡ as_watched (standing_in q s rest)
    → as_watched (or_else (only_if (is_path q (node_path h)) (Some x)) (or_else (standing_in q d below) (standing_in q r rest)))
    ≡ as_watched (or_else (only_if (is_path q (node_path h)) (Some y)) (or_else (standing_in q d2 below) (standing_in q s rest)))
behind_same q r s d d2 h below rest x y off outside e =
    go (is_path q (node_path h)) (standing_in q d below) (standing_in q d2 below) off (there q d below ∙ outside) (there q d2 below ∙ outside)
  where
    go : (b : Bool) (u v : Option Standing) → b ≡ false → is_some u ≡ false → is_some v ≡ false
        → as_watched (or_else (only_if b (Some x)) (or_else u (standing_in q r rest))) ≡ as_watched (or_else (only_if b (Some y)) (or_else v (standing_in q s rest)))
    go true u v f g k = absurd cc
    go false (Some a) v f g k = absurd cc
    go false None (Some c) f g k = absurd cc
    go false None None f g k = e

either_true : (a b : Bool) → (a || b) ≡ false → b ≡ true → ⊥
either_true true b e f = cc
either_true false b e f = true≢false (sym f ∙ e)

-- where a watch shows a node as before, it shows each node in it as before
round_same : (p q : Path) (r s : HandedDown) (os : Objects) → PathsDiffer os → (x : Standing) → standing_in p r os ≡ Some x → is_watchable x.object.head ≡ true → is_round q x.object ≡ true
    → as_watched (standing_in p r os) ≡ as_watched (standing_in p s os) → as_watched (standing_in q r os) ≡ as_watched (standing_in q s os)
round_same p q r s none differ x e watchable inside same = absurd cc
round_same p q r s (node h below rest) differ x e watchable inside same =
    go (is_path p (node_path h)) (standing_in p d below) (standing_in p d2 below) refl refl (there p d below ∙ sym (there p d2 below))
    (λ f g. round_same p q d d2 below differ.2 x f watchable inside g)
    (λ f g. round_same p q r s rest differ.3 x f watchable inside g)
    e same
  where
    c : Context
    c = under r h.name

    c2 : Context
    c2 = under s h.name

    d : HandedDown
    d = handed_down c h

    d2 : HandedDown
    d2 = handed_down c2 h

    own : Standing
    own = standing c h below

    other : Standing
    other = standing c2 h below

    -- this node is the one that is shown as before
    plain_same : (b : Bool) → b ≡ true → plain_or b (shape c h below) ≡ plain_or b (shape c2 h below) → shape c h below ≡ shape c2 h below
    plain_same true f g = g
    plain_same false f g = absurd cc

    rows : is_watchable h ≡ true → as_watched (Some own) ≡ as_watched (Some other) → effective_row d below ≡ effective_row d2 below
    rows f g = ap (λ (o : Object). o.inner) (plain_same (is_watchable h) f (sym (as_shape c h below) ∙ g ∙ as_shape c2 h below))

    here : is_watchable h ≡ true → (b : Bool) → is_path q (node_path h) ≡ b → (b || is_in q below) ≡ true → as_watched (Some own) ≡ as_watched (Some other)
        → as_watched (standing_in q r (node h below rest)) ≡ as_watched (standing_in q s (node h below rest))
    here f true g k e =
        ap (λ (b : Bool). as_watched (or_else (only_if b (Some own)) (or_else (standing_in q d below) (standing_in q r rest)))) g
        ∙ e
        ∙ sym (ap (λ (b : Bool). as_watched (or_else (only_if b (Some other)) (or_else (standing_in q d2 below) (standing_in q s rest)))) g)
    here f false g k e =
        below_same q r s d d2 h below rest own other g k
        (in_same q d d2 below (behind_own d below) (behind_own d2 below) (rows f e))

    -- a node that is in this one, or behind it, hasn't its path
    off : (is_in q below || is_in q rest) ≡ true → is_path q (node_path h) ≡ false
    off f = is_false (is_path q (node_path h)) (λ g. true≢false (sym f ∙ differ.0 q g))

    go : (b : Bool) (u v : Option Standing) → standing_in p d below ≡ u → standing_in p d2 below ≡ v → is_some u ≡ is_some v
        → (standing_in p d below ≡ Some x → as_watched (standing_in p d below) ≡ as_watched (standing_in p d2 below) → as_watched (standing_in q d below) ≡ as_watched (standing_in q d2 below))
        → (standing_in p r rest ≡ Some x → as_watched (standing_in p r rest) ≡ as_watched (standing_in p s rest) → as_watched (standing_in q r rest) ≡ as_watched (standing_in q s rest))
        → or_else (only_if b (Some own)) (or_else u (standing_in p r rest)) ≡ Some x
        → as_watched (or_else (only_if b (Some own)) (or_else u (standing_in p r rest))) ≡ as_watched (or_else (only_if b (Some other)) (or_else v (standing_in p s rest)))
        → as_watched (standing_in q r (node h below rest)) ≡ as_watched (standing_in q s (node h below rest))
    go true u v g k l deep later e f =
        let same : own ≡ x = some_same e in
        here (ap (λ (y : Standing). is_watchable y.object.head) same ∙ watchable) (is_path q (node_path h)) refl
        (ap (λ (y : Standing). is_round q y.object) same ∙ inside) f
    go false (Some y) (Some z) g k l deep later e f =
        let in_below : is_in q below ≡ true = round_in p q d below x (g ∙ e) inside in
        below_same q r s d d2 h below rest own other (off (or_first (is_in q below) (is_in q rest) in_below)) in_below
        (deep (g ∙ e) (ap (λ (o : Option Standing). as_watched o) g ∙ f ∙ sym (ap (λ (o : Option Standing). as_watched o) k)))
    go false (Some y) None g k l deep later e f = absurd cc
    go false None (Some z) g k l deep later e f = absurd cc
    go false None None g k l deep later e f =
        let in_rest : is_in q rest ≡ true = round_in p q r rest x e inside in
        behind_same q r s d d2 h below rest own other (off (or_second (is_in q below) (is_in q rest) in_rest))
        (is_false (is_in q below) (λ i. true≢false (sym in_rest ∙ differ.1 q i)))
        (later e f)

-- what a watch shows with another library, by the rows of the root
watched_with : (plan : Plan) (s : State) (new : Contracts) (p : Path) → watched_object plan (with_library new s) p ≡ as_watched (standing_in p (root_row new) (row (dressed plan s)))
watched_with plan s new p =
    watched_at plan (with_library new s) p ∙ ap (λ (r : Objects). as_watched (standing_in p (root_row new) r)) (roles_library plan s new (row s.tree))

same_by_rows : (plan : Plan) (s : State) (new : Contracts) (p : Path) → is_same plan s (with_library new s) p ≡ true
    → as_watched (standing_in p (root_row s.library) (row (dressed plan s))) ≡ as_watched (standing_in p (root_row new) (row (dressed plan s)))
same_by_rows plan s new p e =
    sym (watched_at plan s p)
    ∙ (object_decides (watched_object plan s p) (watched_object plan (with_library new s) p)).0 e
    ∙ watched_with plan s new p

by_rows_same : (plan : Plan) (s : State) (new : Contracts) (p : Path)
    → as_watched (standing_in p (root_row s.library) (row (dressed plan s))) ≡ as_watched (standing_in p (root_row new) (row (dressed plan s)))
    → is_same plan s (with_library new s) p ≡ true
by_rows_same plan s new p e =
    (object_decides (watched_object plan s p) (watched_object plan (with_library new s) p)).1 (watched_at plan s p ∙ e ∙ sym (watched_with plan s new p))

pub defaults_reach : DefaultsReach
defaults_reach plan s new differ p q x found watchable inside same =
    by_rows_same plan s new q
    (round_same p q (root_row s.library) (root_row new) (row (dressed plan s)) differ x (sym (at_row plan s p) ∙ found) watchable inside (same_by_rows plan s new p same))

-- a head that comes to the same with another library does so with another value
slot_with : (c d : Context) (h k : Head) → without_values h ≡ without_values k → (k.slot ≡ Absent → h.slot ≡ Absent) → (head_in c h).slot ≡ (head_in d h).slot → (head_in c k).slot ≡ (head_in d k).slot
slot_with c d h k e stays same = go k.slot refl
  where
    none_given : (a : Context) (u : Head) → u.slot ≡ Absent → (head_in a u).slot ≡ (head_in a (without_values u)).slot
    none_given a u f = ap (λ (v : Slot). (head_in a (record u { slot = v })).slot) f

    either_none : (a : Context) → k.slot ≡ Absent → (head_in a k).slot ≡ (head_in a h).slot
    either_none a f = none_given a k f ∙ sym (ap (λ (u : Head). (head_in a u).slot) e) ∙ sym (none_given a h (stays f))

    go : (v : Slot) → k.slot ≡ v → (head_in c k).slot ≡ (head_in d k).slot
    go Absent f = either_none c f ∙ same ∙ sym (either_none d f)
    go Null f = ap (λ (v : Slot). (head_in c (record k { slot = v })).slot) f ∙ sym (ap (λ (v : Slot). (head_in d (record k { slot = v })).slot) f)
    go (Is v) f = ap (λ (v : Slot). (head_in c (record k { slot = v })).slot) f ∙ sym (ap (λ (v : Slot). (head_in d (record k { slot = v })).slot) f)

head_with : (c d : Context) → Stands c d → (h k : Head) → without_values h ≡ without_values k → (k.slot ≡ Absent → h.slot ≡ Absent) → head_in c h ≡ head_in d h → head_in c k ≡ head_in d k
head_with c d s h k e stays same =
    one_head (head_in c k) (head_in d k)
    (sym (head_in-alike c h k e) ∙ ap (λ (u : Head). without_values u) same ∙ head_in-alike d h k e)
    (slot_with c d h k e stays (ap (λ (u : Head). u.slot) same))
    (status_same c d s k)

-- a row that comes to the same, and what is inherited behind it
record Same (r q : HandedDown) (os : Objects) (xs ys : List Object) : Type 0 where
  pub own : row_with_defaults (own_row r os) ≡ row_with_defaults (own_row q os)
  pub behind : row_with_defaults (in_row xs) ≡ row_with_defaults (in_row ys)

whole_same : (d d2 : HandedDown) (below inner : Objects) → AreAlike below inner → Same d d2 inner (behind_own d below) (behind_own d2 below) → effective_row d inner ≡ effective_row d2 inner
whole_same d d2 below inner alike same =
    ap (λ (l : List Object). behind (own_row d inner) (map bare l)) (sym (missing_names (listed below) (listed inner) d.sources (names_alike below inner alike)))
    ∙ behind_rows (own_row d inner) (behind_own d below)
    ∙ ap₂ (λ (x y : Objects). in_row (listed x ++ listed y)) same.own same.behind
    ∙ sym (behind_rows (own_row d2 inner) (behind_own d2 below))
    ∙ ap (λ (l : List Object). behind (own_row d2 inner) (map bare l)) (missing_names (listed below) (listed inner) d2.sources (names_alike below inner alike))

row_with : (r q : HandedDown) → Handed r q → (os qs : Objects) → AreAlike os qs → StayGiven os qs → (xs ys : List Object) → behind (own_row r os) xs ≡ behind (own_row q os) ys → Same r q qs xs ys
unfolding result_of
row_with r q h none none a g xs ys e = record { own = refl; behind = e }
row_with r q h none (node k inner more) a g xs ys e = absurd a
row_with r q h (node i below rest) none a g xs ys e = absurd a
row_with r q h (node i below rest) (node k inner more) a g xs ys e =
    joined
    (whole_same d d2 below inner a.1 (row_with d d2 (hands_down c c2 stands i) below inner a.1 g.1 (behind_own d below) (behind_own d2 below) (ap inner_of e)))
    (row_with r q h rest more a.2 g.2 xs ys (ap rest_of e))
  where
    c : Context
    c = under r i.name

    c2 : Context
    c2 = under q i.name

    d : HandedDown
    d = handed_down c i

    d2 : HandedDown
    d2 = handed_down c2 i

    stands : Stands c c2
    stands = stands_under r q h i.name

    first : head_in c k ≡ head_in c2 k
    first = head_with c c2 stands i k a.0 g.0 (ap (head_of i) e)

    -- the second object stands where the first one does
    placed : (s : HandedDown) → row_with_defaults (own_row s (node k inner more)) ≡ node (head_in (under s i.name) k) (effective_row (handed_down (under s i.name) i) inner) (row_with_defaults (own_row s more))
    placed s =
        ap (λ (u : Context). node (head_in u k) (effective_row (handed_down u k) inner) (row_with_defaults (own_row s more))) (under_alike s i k a.0)
        ∙ ap (λ (u : HandedDown). node (head_in (under s i.name) k) (effective_row u inner) (row_with_defaults (own_row s more))) (handed_alike (under s i.name) i k a.0)

    joined : effective_row d inner ≡ effective_row d2 inner → Same r q more xs ys → Same r q (node k inner more) xs ys
    joined inners later = record {
      own =
          placed r
          ∙ ap (λ (u : Head). node u (effective_row d inner) (row_with_defaults (own_row r more))) first
          ∙ ap₂ (λ (u v : Objects). node (head_in c2 k) u v) inners later.own
          ∙ sym (placed q);
      behind = later.behind;
    }

-- a node that is watched as before with another library is so with other values
at_node_with : (c d : Context) → Stands c d → (h k : Head) (below inner : Objects) → without_values h ≡ without_values k → (k.slot ≡ Absent → h.slot ≡ Absent) → AreAlike below inner → StayGiven below inner
    → as_watched (Some (standing c h below)) ≡ as_watched (Some (standing d h below)) → as_watched (Some (standing c k inner)) ≡ as_watched (Some (standing d k inner))
at_node_with c d s h k below inner e stays alike given same =
    as_shape c k inner
    ∙ go (is_watchable h) (ap (λ (u : Head). is_watchable u) e) (sym (as_shape c h below) ∙ same ∙ as_shape d h below)
    ∙ sym (as_shape d k inner)
  where
    -- the whole head, from one without name and href
    heads : shape c h below ≡ shape d h below → head_in c k ≡ head_in d k
    heads f = head_with c d s h k e stays (ap (λ (o : Object). record o.head { name = h.name; href = h.href }) f)

    rows : shape c h below ≡ shape d h below → effective_row (handed_down c k) inner ≡ effective_row (handed_down d k) inner
    rows f =
        ap (λ (u : HandedDown). effective_row u inner) (handed_alike c h k e)
        ∙ whole_same (handed_down c h) (handed_down d h) below inner alike
        (row_with (handed_down c h) (handed_down d h) (hands_down c d s h) below inner alike given (behind_own (handed_down c h) below) (behind_own (handed_down d h) below) (ap (λ (o : Object). o.inner) f))
        ∙ ap (λ (u : HandedDown). effective_row u inner) (sym (handed_alike d h k e))

    go : (b : Bool) → b ≡ is_watchable k → plain_or b (shape c h below) ≡ plain_or b (shape d h below) → plain_or (is_watchable k) (shape c k inner) ≡ plain_or (is_watchable k) (shape d k inner)
    go true f g =
        ap₂ (λ (u : Head) (v : Objects). plain_or (is_watchable k) (record { head = record u { name = None; href = None }; inner = v })) (heads g) (rows g)
    go false f g = ap (λ b. plain_or b (shape c k inner)) (sym f) ∙ ap (λ b. plain_or b (shape d k inner)) f

found_with : (p : Path) (r q : HandedDown) → Handed r q → (os qs : Objects) → AreAlike os qs → StayGiven os qs → as_watched (standing_in p r os) ≡ as_watched (standing_in p q os)
    → as_watched (standing_in p r qs) ≡ as_watched (standing_in p q qs)
found_with p r q h none none a g e = refl
found_with p r q h none (node k inner more) a g e = absurd a
found_with p r q h (node i below rest) none a g e = absurd a
found_with p r q h (node i below rest) (node k inner more) a g e =
    ap (λ (o : Option Standing). as_watched o) (first_alike p r i k inner more a.0)
    ∙ go (is_path p (node_path i)) (standing_in p d below) (standing_in p d2 below) (standing_in p d inner) (standing_in p d2 inner)
    (there p d below ∙ sym (there p d2 below))
    (there p d below ∙ in_alike p below inner a.1 ∙ sym (there p d inner))
    (there p d below ∙ in_alike p below inner a.1 ∙ sym (there p d2 inner))
    (found_with p d d2 (hands_down c c2 stands i) below inner a.1 g.1)
    (found_with p r q h rest more a.2 g.2)
    e
    ∙ sym (ap (λ (o : Option Standing). as_watched o) (first_alike p q i k inner more a.0))
  where
    c : Context
    c = under r i.name

    c2 : Context
    c2 = under q i.name

    d : HandedDown
    d = handed_down c i

    d2 : HandedDown
    d2 = handed_down c2 i

    stands : Stands c c2
    stands = stands_under r q h i.name

    go : (b : Bool) (u v w z : Option Standing) → is_some u ≡ is_some v → is_some u ≡ is_some w → is_some u ≡ is_some z
        → (as_watched u ≡ as_watched v → as_watched w ≡ as_watched z)
        → (as_watched (standing_in p r rest) ≡ as_watched (standing_in p q rest) → as_watched (standing_in p r more) ≡ as_watched (standing_in p q more))
        → as_watched (or_else (only_if b (Some (standing c i below))) (or_else u (standing_in p r rest))) ≡ as_watched (or_else (only_if b (Some (standing c2 i below))) (or_else v (standing_in p q rest)))
        → as_watched (or_else (only_if b (Some (standing c k inner))) (or_else w (standing_in p r more))) ≡ as_watched (or_else (only_if b (Some (standing c2 k inner))) (or_else z (standing_in p q more)))
    go true u v w z s t m deep later f = at_node_with c c2 stands i k below inner a.0 g.0 a.1 g.1 f
    go false (Some u) (Some v) (Some w) (Some z) s t m deep later f = deep f
    go false (Some u) None w z s t m deep later f = absurd cc
    go false (Some u) (Some v) None z s t m deep later f = absurd cc
    go false (Some u) (Some v) (Some w) None s t m deep later f = absurd cc
    go false None (Some v) w z s t m deep later f = absurd cc
    go false None None (Some w) z s t m deep later f = absurd cc
    go false None None None (Some z) s t m deep later f = absurd cc
    go false None None None None s t m deep later f = later f

same_with : (plan : Plan) (s t : State) (new : Contracts) → DifferInValues s t → StayGiven (row s.tree) (row t.tree) → DifferInDefaults s.library new → (p : Path)
    → is_same plan s (with_library new s) p ≡ true → is_same plan t (with_library new t) p ≡ true
same_with plan s t new values given differ p e =
    by_rows_same plan t new p
    (ap (λ (lib : Contracts). as_watched (standing_in p (root_row lib) (row (dressed plan t)))) (sym values.library)
    ∙ found_with p (root_row s.library) (root_row new) (record { library = differ; implied = refl; sources = refl }) (row (dressed plan s)) (row (dressed plan t))
    (roles_alike plan s t values.histories (row s.tree) (row t.tree) values.tree)
    (roles_given plan s t values.histories (row s.tree) (row t.tree) values.tree given)
    (same_by_rows plan s new p e))

-- states that differ in values alone do so the other way round
slots_back : (os qs : Objects) → DifferInSlots os qs → DifferInSlots qs os
slots_back none none d = tt
slots_back none (node k inner more) d = absurd d
slots_back (node h below rest) none d = absurd d
slots_back (node h below rest) (node k inner more) d = (
  sym d.0,
  λ e. sym (d.1 (ap (λ (u : Head). node_path u) d.0 ∙ e)),
  slots_back below inner d.2,
  slots_back rest more d.3,
)

pub values_back : (s t : State) → DifferInValues s t → DifferInValues t s
values_back s t values = record { library = sym values.library; tree = slots_back (row s.tree) (row t.tree) values.tree; histories = sym values.histories }

pub defaults_stand : DefaultsStand
defaults_stand plan s t new values given back differ p =
    bool_same (is_same plan s (with_library new s) p) (is_same plan t (with_library new t) p)
    (same_with plan s t new values given differ p)
    (same_with plan t s new (values_back s t values) back (ap (λ (l : Contracts). defaults_off l) (sym values.library) ∙ differ) p)
