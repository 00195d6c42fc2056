-- What is shown, told by the own objects.
use Rattle.std.proofs.Common.{ℕ, ◌≡◌, zero, suc, ◌-◌, Bool, true, false, not, ◌||◌, cond, List, [], ◌∷◌, ◌++◌, Option, Some, None, option_map, refl, sym, ap, ap₂, ◌∙◌, subst}
use Rattle.std.specs.Prelude.{is_some, nat_lt, slice_get}
use Rattle.ob_values.proofs.Bools.{or_false, neither, or_first, or_second}
use Rattle.ob_object.specs.declared.head.Head.{Head}
use Rattle.ob_object.specs.Object.{Objects, none, node, Object, count, listed, in_row}
use Rattle.ob_object.specs.Paths.{is_path, node_path}
use Rattle.ob_contracts.specs.Inherit.{Contracts, or_else, only_if}
use Rattle.ob_site_rules.specs.Build.{Path}
use Rattle.ob_site_rules.specs.Shown.{derived, derived_at, with_status, with_roles, dressed}
use Rattle.ob_site_rules.specs.State.{State}
use Rattle.ob_site_rules.specs.declared.plan.Plan.{Plan}
use Rattle.ob_tree.specs.Contexts.{HandedDown, handed_down, under}
use Rattle.ob_shown_laws.specs.Alike.{row, without_slot, without_values, DifferInSlots, paths_of, DifferInValues}
use Rattle.ob_shown_laws.specs.Standing.{Standing, effective, standing_in, root_standing, standing_at}
use Rattle.ob_shown_laws.specs.Changed.{same_standing, is_in, is_round, differs, PathsDiffer}
use Rattle.ob_shown_laws.specs.Numbered.{root_row, numbered}
use Rattle.ob_shown_laws.specs.Own.{derived_own}
use Rattle.ob_shown_laws.specs.OwnShown.{IsNotDerived, own_standing, dressed_standing, derived_standing, OwnIsEnough, OwnTellsDifferences}
use Rattle.ob_shown_laws.proofs.Standings.{or_else-none, node_of-effective}
use Rattle.ob_values.proofs.Lists.{bytes_itself}
use Rattle.ob_shown_laws.proofs.Touches.{in_alike, there, found_here, found_behind, not_both}
use Rattle.ob_shown_laws.proofs.Reaching.{status_off, derived_alike, at_row}
use Rattle.ob_shown_laws.proofs.Owning.{path_off, own_nodes}
use Rattle.ob_shown_laws.proofs.Looking.{first_alike, standing_in-behind, at_path}
use Rattle.ob_shown_laws.proofs.Undressing.{in_behind, front_differs, not_behind, own_there, not_derived}

-- what isn't in a row isn't found in it
nothing_there : (p : Path) (r : HandedDown) (os : Objects) → is_in p os ≡ false → standing_in p r os ≡ None
nothing_there p r os e = go (standing_in p r os) (there p r os ∙ e)
  where
    go : (o : Option Standing) → is_some o ≡ false → o ≡ None
    go None f = refl
    go (Some x) f = absurd cc

-- the dressed objects of a row are looked through as the own ones are
dressed_in : (plan : Plan) (s : State) (p : Path) (r : HandedDown) (os : Objects) → IsNotDerived plan s p os
    → standing_in p r (with_roles plan s os) ≡ option_map (dressed_standing plan s) (standing_in p r os)
dressed_in plan s p r none off = refl
dressed_in plan s p r (node h below rest) off =
    first_alike p r h (with_status plan s h) inner (with_roles plan s rest) (sym (status_off plan s h (node_path h)))
    ∙ ap₂ (λ i l. or_else (only_if (is_path p (node_path h)) (Some (dressed_standing plan s x))) (or_else i l))
    (standing_in-behind p d (with_roles plan s below) (derived plan s (node_path h))
    ∙ ap₂ or_else (dressed_in plan s p d below off.1) (nothing_there p d (in_row (derived plan s (node_path h))) off.0)
    ∙ or_else-none (option_map (dressed_standing plan s) (standing_in p d below)))
    (dressed_in plan s p r rest off.2)
    ∙ go (is_path p (node_path h)) (standing_in p d below) (standing_in p r rest)
  where
    d : HandedDown
    d = handed_down (under r h.name) h

    inner : Objects
    inner = in_row (listed (with_roles plan s below) ++ derived plan s (node_path h))

    x : Standing
    x = record { context = under r h.name; object = record { head = h; inner = below } }

    go : (b : Bool) (i l : Option Standing)
        → or_else (only_if b (Some (dressed_standing plan s x))) (or_else (option_map (dressed_standing plan s) i) (option_map (dressed_standing plan s) l))
        ≡ option_map (dressed_standing plan s) (or_else (only_if b (Some x)) (or_else i l))
    go true i l = refl
    go false (Some u) l = refl
    go false None l = refl

stands_own : (plan : Plan) (s : State) (p : Path) → IsNotDerived plan s p (row s.tree) → standing_at plan s p ≡ option_map (dressed_standing plan s) (own_standing s p)
stands_own plan s p off = at_row plan s p ∙ dressed_in plan s p (root_row s.library) (row s.tree) off

-- the objects of a row of different paths are found at their paths
in_it : (p : Path) (ys : List Object) (i : ℕ) (d : Object) → slice_get ys i ≡ Some d → node_path d.head ≡ Some p → is_in p (in_row ys) ≡ true
in_it p [] i d is path = absurd cc
in_it p (y ∷ ys) zero d is path =
    or_first (is_path p (node_path y.head)) (is_in p y.inner || is_in p (in_row ys)) (ap (λ (o : Object). is_path p (node_path o.head)) (same is) ∙ ap (is_path p) path ∙ bytes_itself p)
  where
    same : {a b : Object} → Some a ≡ Some b → a ≡ b
    same e = cc
in_it p (y ∷ ys) (suc i) d is path =
    or_second (is_path p (node_path y.head)) (is_in p y.inner || is_in p (in_row ys)) (or_second (is_in p y.inner) (is_in p (in_row ys)) (in_it p ys i d is path))

found_it : (p : Path) (r : HandedDown) (ys : List Object) (i : ℕ) (d : Object) → PathsDiffer (in_row ys) → slice_get ys i ≡ Some d → node_path d.head ≡ Some p
    → standing_in p r (in_row ys) ≡ Some (record { context = under r d.head.name; object = d })
found_it p r [] i d differ is path = absurd cc
found_it p r (y ∷ ys) zero d differ is path =
    found_here p r y.head y.inner (in_row ys) (ap (λ (o : Object). is_path p (node_path o.head)) (same is) ∙ ap (is_path p) path ∙ bytes_itself p)
    ∙ ap (λ (o : Object). Some (record { context = under r o.head.name; object = o })) (same is)
  where
    same : {a b : Object} → Some a ≡ Some b → a ≡ b
    same e = cc
found_it p r (y ∷ ys) (suc i) d differ is path =
    let behind : is_in p (in_row ys) ≡ true = in_it p ys i d is path in
    let own : is_path p (node_path y.head) ≡ false = not_both (is_path p (node_path y.head)) (is_in p y.inner || is_in p (in_row ys)) (differ.0 p) (or_second (is_in p y.inner) (is_in p (in_row ys)) behind) in
    let deep : is_in p y.inner ≡ false = not_both (is_in p y.inner) (is_in p (in_row ys)) (differ.1 p) behind in
    found_behind p r y.head y.inner (in_row ys) own deep ∙ found_it p r ys i d differ.3 is path

back_differs : (r : Objects) (ys : List Object) → PathsDiffer (in_row (listed r ++ ys)) → PathsDiffer (in_row ys)
back_differs none ys d = d
back_differs (node h inner rest) ys d = back_differs rest ys d.3

-- a derived node is found behind the own children of its node
derived_in : (plan : Plan) (s : State) (p q : Path) (r : HandedDown) (os : Objects) (x : Standing) (i : ℕ) (d : Object) → PathsDiffer (with_roles plan s os) → standing_in q r os ≡ Some x
    → slice_get (derived_at plan s q) i ≡ Some d → node_path d.head ≡ Some p → standing_in p r (with_roles plan s os) ≡ Some (derived_standing x d)
derived_in plan s p q r none x i d differ e is path = absurd cc
derived_in plan s p q r (node h below rest) x i d differ e is path =
    first_alike p r h (with_status plan s h) inner (with_roles plan s rest) (sym (status_off plan s h (node_path h)))
    ∙ go (is_path q (node_path h)) (standing_in q c below) refl refl e
    (λ f. derived_in plan s p q c below x i d (front_differs (with_roles plan s below) more differ.2) f is path)
    (λ f. derived_in plan s p q r rest x i d differ.3 f is path)
  where
    c : HandedDown
    c = handed_down (under r h.name) h

    more : List Object
    more = derived plan s (node_path h)

    inner : Objects
    inner = in_row (listed (with_roles plan s below) ++ more)

    here : Standing
    here = record { context = under r h.name; object = record { head = h; inner = below } }

    dressed_here : Standing
    dressed_here = record { context = under r h.name; object = record { head = with_status plan s h; inner = inner } }

    some_same : {a b : Standing} → Some a ≡ Some b → a ≡ b
    some_same f = cc

    -- it isn't the node itself where it is in it, or behind it
    not_here : (is_in p inner || is_in p (with_roles plan s rest)) ≡ true → is_path p (node_path h) ≡ false
    not_here f =
        sym (ap (is_path p) (path_off plan s h (node_path h)))
        ∙ not_both (is_path p (node_path (with_status plan s h))) (is_in p inner || is_in p (with_roles plan s rest)) (differ.0 p) f

    found_there : (o : Option Standing) → standing_in p c inner ≡ o → is_path p (node_path h) ≡ false → or_else o (standing_in p r (with_roles plan s rest)) ≡ Some (derived_standing x d)
        → or_else (only_if (is_path p (node_path h)) (Some dressed_here)) (or_else (standing_in p c inner) (standing_in p r (with_roles plan s rest))) ≡ Some (derived_standing x d)
    found_there o f g k = ap₂ (λ b j. or_else (only_if b (Some dressed_here)) (or_else j (standing_in p r (with_roles plan s rest)))) g f ∙ k

    in_some : (o : Option Standing) (y : Standing) → o ≡ Some y → is_some o ≡ true
    in_some o y f = ap is_some f

    go : (b : Bool) (u : Option Standing) → is_path q (node_path h) ≡ b → standing_in q c below ≡ u → or_else (only_if b (Some here)) (or_else u (standing_in q r rest)) ≡ Some x
        → (standing_in q c below ≡ Some x → standing_in p c (with_roles plan s below) ≡ Some (derived_standing x d))
        → (standing_in q r rest ≡ Some x → standing_in p r (with_roles plan s rest) ≡ Some (derived_standing x d))
        → or_else (only_if (is_path p (node_path h)) (Some dressed_here)) (or_else (standing_in p c inner) (standing_in p r (with_roles plan s rest))) ≡ Some (derived_standing x d)
    go true u f g e deep later =
        let same : here ≡ x = some_same e in
        let all : derived plan s (node_path h) ≡ derived_at plan s q = ap (derived plan s) (at_path q (node_path h) f) in
        let its : slice_get more i ≡ Some d = ap (λ (l : List Object). slice_get l i) all ∙ is in
        let last : is_in p (in_row more) ≡ true = in_it p more i d its path in
        let front : is_in p (with_roles plan s below) ≡ false = not_both (is_in p (with_roles plan s below)) (is_in p (in_row more)) (not_behind p (with_roles plan s below) more differ.2) last in
        let in_inner : is_in p inner ≡ true = in_behind p (with_roles plan s below) more ∙ or_second (is_in p (with_roles plan s below)) (is_in p (in_row more)) last in
        let found : standing_in p c inner ≡ Some (record { context = under c d.head.name; object = d }) =
        standing_in-behind p c (with_roles plan s below) more
        ∙ ap₂ or_else (nothing_there p c (with_roles plan s below) front) (found_it p c more i d (back_differs (with_roles plan s below) more differ.2) its path) in
        found_there (Some (record { context = under c d.head.name; object = d })) found (not_here (or_first (is_in p inner) (is_in p (with_roles plan s rest)) in_inner))
        (ap (λ (y : Standing). Some (derived_standing y d)) same)
    go false (Some u) f g e deep later =
        let lower : standing_in p c (with_roles plan s below) ≡ Some (derived_standing x d) = deep (g ∙ e) in
        let front : is_in p (with_roles plan s below) ≡ true = sym (there p c (with_roles plan s below)) ∙ in_some (standing_in p c (with_roles plan s below)) (derived_standing x d) lower in
        let in_inner : is_in p inner ≡ true = in_behind p (with_roles plan s below) more ∙ or_first (is_in p (with_roles plan s below)) (is_in p (in_row more)) front in
        found_there (Some (derived_standing x d))
        (standing_in-behind p c (with_roles plan s below) more ∙ ap (λ o. or_else o (standing_in p c (in_row more))) lower)
        (not_here (or_first (is_in p inner) (is_in p (with_roles plan s rest)) in_inner))
        refl
    go false None f g e deep later =
        let behind : standing_in p r (with_roles plan s rest) ≡ Some (derived_standing x d) = later e in
        let last : is_in p (with_roles plan s rest) ≡ true = sym (there p r (with_roles plan s rest)) ∙ in_some (standing_in p r (with_roles plan s rest)) (derived_standing x d) behind in
        let lower : is_in p inner ≡ false = not_both (is_in p inner) (is_in p (with_roles plan s rest)) (differ.1 p) last in
        found_there None (nothing_there p c inner lower) (not_here (or_second (is_in p inner) (is_in p (with_roles plan s rest)) last)) behind

in_dressed : (plan : Plan) (s : State) (p : Path) (os : Objects) → IsNotDerived plan s p os → is_in p (with_roles plan s os) ≡ is_in p os
in_dressed plan s p none off = refl
in_dressed plan s p (node h below rest) off =
    ap₂ (λ a b. a || b) (ap (is_path p) (path_off plan s h (node_path h)))
    (ap₂ (λ a b. a || b)
    (in_behind p (with_roles plan s below) (derived plan s (node_path h))
    ∙ ap₂ (λ a b. a || b) (in_dressed plan s p below off.1) off.0
    ∙ or_false (is_in p below))
    (in_dressed plan s p rest off.2))

round_dressed : (plan : Plan) (s : State) (p : Path) (o : Object) → IsNotDerived plan s p (row o) → is_round p (derived_own plan s o) ≡ is_round p o
round_dressed plan s p o off =
    ap₂ (λ a b. a || b) (ap (is_path p) (path_off plan s o.head (node_path o.head)))
    (in_behind p (with_roles plan s o.inner) (derived plan s (node_path o.head))
    ∙ ap₂ (λ a b. a || b) (in_dressed plan s p o.inner off.1) off.0
    ∙ or_false (is_in p o.inner))

part_not_derived : (plan : Plan) (s : State) (p : Path) (r : HandedDown) (os : Objects) (k : ℕ) (x : Standing) → IsNotDerived plan s p os → numbered k r os ≡ Some x → IsNotDerived plan s p (row x.object)
part_not_derived plan s p r none k x off e = absurd cc
part_not_derived plan s p r (node h below rest) zero x off e =
    subst (λ (y : Standing). IsNotDerived plan s p (row y.object)) (some_same e) (off.0, off.1, tt)
  where
    some_same : {a b : Standing} → Some a ≡ Some b → a ≡ b
    some_same f = cc
part_not_derived plan s p r (node h below rest) (suc k) x off e =
    go (nat_lt k (count below)) e (λ f. part_not_derived plan s p (handed_down (under r h.name) h) below k x off.1 f) (λ f. part_not_derived plan s p r rest (k - count below) x off.2 f)
  where
    go : (b : Bool) → cond b (numbered k (handed_down (under r h.name) h) below) (numbered (k - count below) r rest) ≡ Some x
        → (numbered k (handed_down (under r h.name) h) below ≡ Some x → IsNotDerived plan s p (row x.object)) → (numbered (k - count below) r rest ≡ Some x → IsNotDerived plan s p (row x.object))
        → IsNotDerived plan s p (row x.object)
    go true e deep later = deep e
    go false e deep later = later e

-- own nodes have different paths where all nodes have
off_in : (plan : Plan) (s : State) (p : Path) (os : Objects) → is_in p (with_roles plan s os) ≡ false → is_in p os ≡ false
off_in plan s p os e = not_both (is_in p os) (not (is_in p (with_roles plan s os))) (λ f. ap not (own_there plan s p os f)) (ap not e)

own_differ : (plan : Plan) (s : State) (os : Objects) → PathsDiffer (with_roles plan s os) → PathsDiffer os
own_differ plan s none d = tt
own_differ plan s (node h below rest) d = (
  λ p e.
      (let both = neither (is_in p inner) (is_in p (with_roles plan s rest)) (d.0 p (ap (is_path p) (path_off plan s h (node_path h)) ∙ e)) in
      let deep = neither (is_in p (with_roles plan s below)) (is_in p (in_row more)) (sym (in_behind p (with_roles plan s below) more) ∙ both.0) in
      ap₂ (λ a b. a || b) (off_in plan s p below deep.0) (off_in plan s p rest both.1)),
  λ p e.
      off_in plan s p rest
      (d.1 p (in_behind p (with_roles plan s below) more ∙ or_first (is_in p (with_roles plan s below)) (is_in p (in_row more)) (own_there plan s p below e))),
  own_differ plan s below (front_differs (with_roles plan s below) more d.2),
  own_differ plan s rest d.3,
)
  where
    more : List Object
    more = derived plan s (node_path h)

    inner : Objects
    inner = in_row (listed (with_roles plan s below) ++ more)

map_twice : (plan : Plan) (s : State) (o : Option Standing) → option_map effective (option_map (dressed_standing plan s) o) ≡ option_map (λ x. effective (dressed_standing plan s x)) o
map_twice plan s None = refl
map_twice plan s (Some x) = refl

pub own_is_enough : OwnIsEnough
own_is_enough plan s = record {
  stands = λ p off. stands_own plan s p off;
  shows = λ p off. node_of-effective p (root_standing plan s) ∙ ap (option_map effective) (stands_own plan s p off) ∙ map_twice plan s (own_standing s p);
  derives = λ p q x place d differ e is path. at_row plan s p ∙ derived_in plan s p q (root_row s.library) (row s.tree) x place d differ e is path;
  round = λ p k x off e. round_dressed plan s p x.object (part_not_derived plan s p (root_row s.library) (row s.tree) k x off e);
  own = λ p differ e. not_derived plan s p (row s.tree) differ e;
  differ = λ differ. own_differ plan s (row s.tree) differ;
}

-- two states that differ in values alone
slot_path : (h k : Head) → without_slot h ≡ without_slot k → node_path h ≡ node_path k
slot_path h k e = ap (λ (u : Head). node_path u) e

slot_values : (h k : Head) → without_slot h ≡ without_slot k → without_values h ≡ without_values k
slot_values h k e = ap (λ (u : Head). without_values u) e

still_not_derived : (plan : Plan) (s t : State) → paths_of s.logs ≡ paths_of t.logs → (p : Path) (os qs : Objects) → DifferInSlots os qs → IsNotDerived plan s p os → IsNotDerived plan t p qs
still_not_derived plan s t e p none none d off = tt
still_not_derived plan s t e p none (node k inner more) d off = absurd d
still_not_derived plan s t e p (node h below rest) none d off = absurd d
still_not_derived plan s t e p (node h below rest) (node k inner more) d off = (
  ap (λ (o : Option Path). is_in p (in_row (derived plan t o))) (sym (slot_path h k d.0))
      ∙ sym (in_alike p (in_row (derived plan s (node_path h))) (in_row (derived plan t (node_path h))) (derived_alike plan s t e (node_path h)))
      ∙ off.0,
  still_not_derived plan s t e p below inner d.2 off.1,
  still_not_derived plan s t e p rest more d.3 off.2,
)

-- a node stands in one place in both, and differs there in slots alone
abbrev StandAlike : Option Standing → Option Standing → Type 0
StandAlike None None = Unit {0}
StandAlike None (Some y) = ⊥
StandAlike (Some x) None = ⊥
StandAlike (Some x) (Some y) = (y.context ≡ x.context) × DifferInSlots (row x.object) (row y.object)

stand_alike : (p : Path) (r : HandedDown) (os qs : Objects) → DifferInSlots os qs → StandAlike (standing_in p r os) (standing_in p r qs)
stand_alike p r none none d = tt
stand_alike p r none (node k inner more) d = absurd d
stand_alike p r (node h below rest) none d = absurd d
stand_alike p r (node h below rest) (node k inner more) d =
    subst (λ (o : Option Standing). StandAlike (standing_in p r (node h below rest)) o) (sym (first_alike p r h k inner more (slot_values h k d.0)))
    (go (is_path p (node_path h)) (standing_in p c below) (standing_in p c inner) (stand_alike p c below inner d.2) (stand_alike p r rest more d.3))
  where
    c : HandedDown
    c = handed_down (under r h.name) h

    x : Standing
    x = record { context = under r h.name; object = record { head = h; inner = below } }

    y : Standing
    y = record { context = under r h.name; object = record { head = k; inner = inner } }

    go : (b : Bool) (i j : Option Standing) → StandAlike i j → StandAlike (standing_in p r rest) (standing_in p r more)
        → StandAlike (or_else (only_if b (Some x)) (or_else i (standing_in p r rest))) (or_else (only_if b (Some y)) (or_else j (standing_in p r more)))
    go true i j deep later = (refl, (d.0, d.1, d.2, tt))
    go false (Some u) (Some v) deep later = deep
    go false (Some u) None deep later = absurd deep
    go false None (Some v) deep later = absurd deep
    go false None None deep later = later

both_stand : (p : Path) (s t : State) (x y : Standing) → DifferInValues s t → own_standing s p ≡ Some x → own_standing t p ≡ Some y → (y.context ≡ x.context) × DifferInSlots (row x.object) (row y.object)
both_stand p s t x y values e f =
    subst (λ (o : Option Standing). StandAlike (Some x) o) (ap (λ (lib : Contracts). standing_in p (root_row lib) (row t.tree)) values.library ∙ f)
    (subst (λ (o : Option Standing). StandAlike o (standing_in p (root_row s.library) (row t.tree))) e (stand_alike p (root_row s.library) (row s.tree) (row t.tree) values.tree))

found_path : (p : Path) (r : HandedDown) (os : Objects) (x : Standing) → standing_in p r os ≡ Some x → node_path x.object.head ≡ Some p
found_path p r none x e = absurd cc
found_path p r (node h below rest) x e =
    go (is_path p (node_path h)) (standing_in p (handed_down (under r h.name) h) below) refl refl e
    (λ f. found_path p (handed_down (under r h.name) h) below x f) (λ f. found_path p r rest x f)
  where
    here : Standing
    here = record { context = under r h.name; object = record { head = h; inner = below } }

    some_same : {a b : Standing} → Some a ≡ Some b → a ≡ b
    some_same f = cc

    go : (b : Bool) (u : Option Standing) → is_path p (node_path h) ≡ b → standing_in p (handed_down (under r h.name) h) below ≡ u → or_else (only_if b (Some here)) (or_else u (standing_in p r rest)) ≡ Some x
        → (standing_in p (handed_down (under r h.name) h) below ≡ Some x → node_path x.object.head ≡ Some p) → (standing_in p r rest ≡ Some x → node_path x.object.head ≡ Some p) → node_path x.object.head ≡ Some p
    go true u f g e deep later = ap (λ (y : Standing). node_path y.object.head) (sym (some_same e)) ∙ at_path p (node_path h) f
    go false (Some u) f g e deep later = deep (g ∙ e)
    go false None f g e deep later = later e

pub own_tells_differences : OwnTellsDifferences
own_tells_differences plan s t values = record {
  derives = λ p off. still_not_derived plan s t values.histories p (row s.tree) (row t.tree) values.tree off;
  stands = λ p x y e f. (both_stand p s t x y values e f).0;
  differs_by = λ p x y off e f.
      (let at = both_stand p s t x y values e f in
      let before : standing_at plan s p ≡ Some (dressed_standing plan s x) = stands_own plan s p off ∙ ap (option_map (dressed_standing plan s)) e in
      let after : standing_at plan t p ≡ Some (dressed_standing plan t y) =
      stands_own plan t p (still_not_derived plan s t values.histories p (row s.tree) (row t.tree) values.tree off) ∙ ap (option_map (dressed_standing plan t)) f in
      ap₂ (λ i j. not (same_standing i j)) before after
      ∙ ap not (own_nodes plan s t values x.object y.object at.1 p (found_path p (root_row s.library) (row s.tree) x e) x.context));
}
