-- What is shown at a path is what the node there comes to where it stands.
use Rattle.std.proofs.Common.{◌≡◌, ℕ, suc, Bool, true, false, not, ◌||◌, List, [], ◌∷◌, ◌++◌, map, Option, Some, None, option_map, refl, sym, ap, ◌∙◌, ap₂}
use Rattle.std.specs.Prelude.{option_and_then, slice_get}
use Rattle.ob_object.specs.Kinds.{is_ref, is_err}
use Rattle.ob_object.specs.Object.{Objects, none, node, Object, listed, in_row}
use Rattle.ob_object.specs.Paths.{is_path, node_path}
use Rattle.ob_contracts.specs.Inherit.{or_else, only_if, missing, bare, bare_row, row_results, result_of, row_with_defaults, head_with_default}
use Rattle.ob_site_rules.specs.Build.{Path}
use Rattle.ob_site_rules.specs.Shown.{node_in, node_of}
use Rattle.ob_tree.specs.Contexts.{HandedDown, under, handed_down}
use Rattle.ob_shown_laws.specs.Standing.{Standing, effective, inside, walk, standing_in, root_standing, ShownWhereItStands}

pub or_else-assoc : {A : Type 0} (a b c : Option A) → or_else (or_else a b) c ≡ or_else a (or_else b c)
or_else-assoc None b c = refl
or_else-assoc (Some a) b c = refl

pub or_else-none : {A : Type 0} (a : Option A) → or_else a None ≡ a
or_else-none None = refl
or_else-none (Some a) = refl

-- the first of two rows that has the node, after defaults
node_in-both : (p : Path) (r : Objects) (ys : List Object) → node_in p (row_with_defaults (in_row (listed r ++ ys))) ≡ or_else (node_in p (row_with_defaults r)) (node_in p (row_with_defaults (in_row ys)))
node_in-both p none ys = refl
node_in-both p (node h below rest) ys =
    ap (λ o. or_else here (or_else deep o)) (node_in-both p rest ys)
    ∙ ap (or_else here) (sym (or_else-assoc deep _ _))
    ∙ sym (or_else-assoc here _ _)
  where
    here : Option Object
    here = only_if (is_path p (node_path (head_with_default h))) (Some (record { head = head_with_default h; inner = row_with_defaults below }))

    deep : Option Object
    deep = node_in p (row_with_defaults below)

-- no copy without hrefs is a node
no_path : (p : Path) (b : Bool) (o : Object) → only_if (is_path p (only_if b None)) (Some o) ≡ None
no_path p true o = refl
no_path p false o = refl

no_node_bare : (p : Path) (r : Objects) → node_in p (row_with_defaults (bare_row r)) ≡ None
no_node_bare p none = refl
no_node_bare p (node h below rest) =
    ap₂ or_else (no_path p (not (is_ref h.kind || is_err h.kind)) (record { head = head_with_default (record h { href = None }); inner = row_with_defaults (bare_row below) }))
    (ap₂ or_else (no_node_bare p below) (no_node_bare p rest))

no_node_copied : (p : Path) (os : List Object) → node_in p (row_with_defaults (in_row (map bare os))) ≡ None
no_node_copied p [] = refl
no_node_copied p (o ∷ os) =
    ap₂ or_else (no_path p (not (is_ref o.head.kind || is_err o.head.kind)) (record { head = head_with_default (record o.head { href = None }); inner = row_with_defaults (bare_row o.inner) }))
    (ap₂ or_else (no_node_bare p o.inner) (no_node_copied p os))

-- what an effective row has of its own and inherited parts
abbrev pub own_row : HandedDown → Objects → Objects
own_row r os = row_results r.library r.implied r.sources os

abbrev pub effective_row : HandedDown → Objects → Objects
effective_row r os = row_with_defaults (in_row (listed (own_row r os) ++ map bare (missing (listed os) r.sources)))

map_if : (b : Bool) (x : Standing) → option_map effective (only_if b (Some x)) ≡ only_if b (Some (effective x))
map_if true x = refl
map_if false x = refl

map_or : {A B : Type 0} (f : A → B) (a b : Option A) → option_map f (or_else a b) ≡ or_else (option_map f a) (option_map f b)
map_or f None b = refl
map_or f (Some x) b = refl

-- the part of a row of results that is the node at a path is what the node comes to where it stands
node_in-own : (p : Path) (r : HandedDown) (os : Objects) → node_in p (row_with_defaults (own_row r os)) ≡ option_map effective (standing_in p r os)
unfolding result_of
node_in-own p r none = refl
node_in-own p r (node h below rest) =
    ap₂ (λ a b. or_else (only_if (is_path p (node_path h)) (Some (effective x))) (or_else a b))
    (node_in-both p (own_row (handed_down (under r h.name) h) below) (map bare (missing (listed below) (handed_down (under r h.name) h).sources))
    ∙ ap₂ or_else (node_in-own p (handed_down (under r h.name) h) below) (no_node_copied p (missing (listed below) (handed_down (under r h.name) h).sources))
    ∙ or_else-none _)
    (node_in-own p r rest)
    ∙ sym (ap (λ o. or_else (only_if (is_path p (node_path h)) (Some (effective x))) o) (map_or effective inner later))
    ∙ ap (λ o. or_else o (option_map effective (or_else inner later))) (sym (map_if (is_path p (node_path h)) x))
    ∙ sym (map_or effective (only_if (is_path p (node_path h)) (Some x)) (or_else inner later))
  where
    x : Standing
    x = record { context = under r h.name; object = record { head = h; inner = below } }

    inner : Option Standing
    inner = standing_in p (handed_down (under r h.name) h) below

    later : Option Standing
    later = standing_in p r rest

-- the node at a path of an object that stands somewhere
abbrev pub standing_of : Path → Standing → Option Standing
standing_of p x =
    or_else (only_if (is_path p (node_path x.object.head)) (Some x)) (standing_in p (handed_down x.context x.object.head) x.object.inner)

pub node_of-effective : (p : Path) (x : Standing) → node_of p (effective x) ≡ option_map effective (standing_of p x)
unfolding result_of
node_of-effective p x =
    ap (λ o. or_else here o)
    (or_else-none (node_in p (effective_row r x.object.inner))
    ∙ node_in-both p (own_row r x.object.inner) (map bare (missing (listed x.object.inner) r.sources))
    ∙ ap₂ or_else (node_in-own p r x.object.inner) (no_node_copied p (missing (listed x.object.inner) r.sources))
    ∙ or_else-none _)
    ∙ ap (λ o. or_else o (option_map effective deep)) (sym (map_if (is_path p (node_path x.object.head)) x))
    ∙ sym (map_or effective (only_if (is_path p (node_path x.object.head)) (Some x)) deep)
  where
    r : HandedDown
    r = handed_down x.context x.object.head

    deep : Option Standing
    deep = standing_in p r x.object.inner

    here : Option Object
    here = only_if (is_path p (node_path x.object.head)) (Some (effective x))

-- and it is the node of the object itself
object_if : (b : Bool) (x : Standing) → option_map (λ y. y.object) (only_if b (Some x)) ≡ only_if b (Some x.object)
object_if true x = refl
object_if false x = refl

node_in-standing : (p : Path) (r : HandedDown) (os : Objects) → option_map (λ x. x.object) (standing_in p r os) ≡ node_in p os
node_in-standing p r none = refl
node_in-standing p r (node h below rest) =
    map_or (λ y. y.object) (only_if (is_path p (node_path h)) (Some x)) (or_else inner later)
    ∙ ap₂ or_else (object_if (is_path p (node_path h)) x)
    (map_or (λ y. y.object) inner later
    ∙ ap₂ or_else (node_in-standing p (handed_down (under r h.name) h) below) (node_in-standing p r rest))
  where
    x : Standing
    x = record { context = under r h.name; object = record { head = h; inner = below } }

    inner : Option Standing
    inner = standing_in p (handed_down (under r h.name) h) below

    later : Option Standing
    later = standing_in p r rest

node_of-standing : (p : Path) (x : Standing) → option_map (λ y. y.object) (standing_of p x) ≡ node_of p x.object
node_of-standing p x =
    map_or (λ y. y.object) (only_if (is_path p (node_path x.object.head)) (Some x)) (standing_in p (handed_down x.context x.object.head) x.object.inner)
    ∙ ap₂ or_else (object_if (is_path p (node_path x.object.head)) x)
    (node_in-standing p (handed_down x.context x.object.head) x.object.inner ∙ sym (or_else-none (node_in p x.object.inner)))

-- A walk leads to it: from a row, the first step is to an object of it.
abbrev Reached : HandedDown → Objects → Standing → Type 0
Reached r os x = (place : ℕ) × (places : List ℕ) × (option_and_then (λ k. walk (record { context = under r k.head.name; object = k }) places) (slice_get (listed os) place) ≡ Some x)

abbrev later_place : (r : HandedDown) (k : Object) (os : Objects) (x : Standing) → Reached r os x → Reached r (node k.head k.inner os) x
later_place r k os x w = (suc w.0, w.1, w.2)

then_map : {A B C : Type 0} (f : A → B) (g : B → Option C) (o : Option A) → option_and_then g (option_map f o) ≡ option_and_then (λ a. g (f a)) o
then_map f g None = refl
then_map f g (Some a) = refl

walked_in : (p : Path) (r : HandedDown) (os : Objects) (x : Standing) → standing_in p r os ≡ Some x → Reached r os x
walked_in p r none x e = absurd cc
walked_in p r (node h below rest) x e =
    go (is_path p (node_path h)) inner later refl refl
    (walked_in p (handed_down (under r h.name) h) below x) (walked_in p r rest x) e
  where
    here : Standing
    here = record { context = under r h.name; object = record { head = h; inner = below } }

    inner : Option Standing
    inner = standing_in p (handed_down (under r h.name) h) below

    later : Option Standing
    later = standing_in p r rest

    go : (b : Bool) (i l : Option Standing) → inner ≡ i → later ≡ l
        → (inner ≡ Some x → Reached (handed_down (under r h.name) h) below x) → (later ≡ Some x → Reached r rest x)
        → or_else (only_if b (Some here)) (or_else i l) ≡ Some x → Reached r (node h below rest) x
    go true i l f g deep behind e = (0, [], e)
    go false (Some y) l f g deep behind e =
        let w : Reached (handed_down (under r h.name) h) below x = deep (f ∙ e) in
        (0, w.0 ∷ w.1, then_map (inside here) (λ z. walk z w.1) (slice_get (listed below) w.0) ∙ w.2)
    go false None l f g deep behind e = later_place r (record { head = h; inner = below }) rest x (behind (g ∙ e))

walked_of : (p : Path) (x y : Standing) → standing_of p x ≡ Some y → (places : List ℕ) × (walk x places ≡ Some y)
walked_of p x y e = go (is_path p (node_path x.object.head)) e
  where
    go : (b : Bool) → or_else (only_if b (Some x)) (standing_in p (handed_down x.context x.object.head) x.object.inner) ≡ Some y → (places : List ℕ) × (walk x places ≡ Some y)
    go true e = ([], e)
    go false e =
        let w : Reached (handed_down x.context x.object.head) x.object.inner y = walked_in p (handed_down x.context x.object.head) x.object.inner y e in
        (w.0 ∷ w.1, then_map (inside x) (λ z. walk z w.1) (slice_get (listed x.object.inner) w.0) ∙ w.2)

pub shown_there : ShownWhereItStands
shown_there plan s p = record {
  found = node_of-standing p (root_standing plan s);
  shows = node_of-effective p (root_standing plan s);
  walked = walked_of p (root_standing plan s);
}
