-- The nodes that are seen, one part more.
use Rattle.std.proofs.Common.{◌≡◌, ℕ, ◌+◌, ◌<◌, ◌≤◌, Bool, true, false, cond, not, ◌&&◌, ◌||◌, List, [], ◌∷◌, ◌++◌, map, length, take, get_or, Option, Some, None, refl, sym, ap, ap₂, ◌∙◌, subst, true≢false}
use Rattle.std.specs.Prelude.{find, is_some, option_map}
use Rattle.std.specs.Str.{bytes_eq}
use Rattle.std.specs.Ordering.{nat_cmp}
use Rattle.std.specs.Cmp.Lexicographic.{slice_cmp}
use Rattle.std.specs.BTreeMap as tree
use Rattle.std.specs.BTreeSet as set
use Rattle.std.specs.BTreeMap.{BTreeMap}
use Rattle.std.specs.BTreeSet.{BTreeSet}
use Rattle.std.proofs.lemmas.Map.Text.{is_eq-slice_cmp}
use Rattle.std.proofs.lemmas.Slice.Eq.{bytes_eq-Decides}
use Rattle.std.proofs.lemmas.List.{take_more, take_all}
use Rattle.ob_values.proofs.Bools.{and_false, or_cond}
use Rattle.ob_object.specs.declared.kind.Kind.{Kind}
use Rattle.ob_object.specs.Object.{Object}
use Rattle.ob_object.specs.Paths.{is_path, node_path}
use Rattle.ob_object.specs.Kinds.{has_values}
use Rattle.ob_contracts.specs.Inherit.{or_else}
use Rattle.ob_site_rules.specs.Build.{Path}
use Rattle.ob_site_rules.specs.Loading.{Part, node_there, is_number_kind}
use Rattle.ob_roles.specs.SiteParts.{part}
use Rattle.ob_roles.specs.declared.part.Part.{Part as OwnPart}
use Rattle.ob_site_file.specs.Sought.{has_path, kind_under, or_this, Sees}
use Rattle.ob_site_file.specs.declared.nodes.Nodes.{Nodes}

-- a part is a node outside the contracts with this path and a kind that passes
abbrev pub is_there : (Kind → Bool) → Path → Part → Bool
is_there fits p q = not q.inside && (fits q.own.head.kind && is_path p (node_path q.own.head))

there_more : (fits : Kind → Bool) (ps : List Part) (p : Path) (q : Part) → node_there fits (ps ++ q ∷ []) p ≡ or_else (node_there fits ps p) (cond (is_there fits p q) (Some q.own) None)
there_more fits [] p q = go (is_there fits p q)
  where
    go : (b : Bool) → option_map (λ (r : Part). r.own) (cond b (Some q) None) ≡ cond b (Some q.own) None
    go true = refl
    go false = refl
there_more fits (x ∷ ps) p q = go (is_there fits p x) (there_more fits ps p q)
  where
    last : Option Object
    last = cond (is_there fits p q) (Some q.own) None

    go : (b : Bool) → node_there fits (ps ++ q ∷ []) p ≡ or_else (node_there fits ps p) last
        → option_map (λ (r : Part). r.own) (cond b (Some x) (find (is_there fits p) (ps ++ q ∷ []))) ≡ or_else (option_map (λ (r : Part). r.own) (cond b (Some x) (find (is_there fits p) ps))) last
    go true rest = refl
    go false rest = rest

some_more : (a : Option Object) (b : Bool) (o : Object) → is_some (or_else a (cond b (Some o) None)) ≡ (b || is_some a)
some_more None true o = refl
some_more None false o = refl
some_more (Some x) true o = refl
some_more (Some x) false o = refl

kind_more : (a : Option Object) (b : Bool) (o : Object) → option_map (λ (x : Object). x.head.kind) (or_else a (cond b (Some o) None)) ≡ or_this (option_map (λ (x : Object). x.head.kind) a) b o.head.kind
kind_more None true o = refl
kind_more None false o = refl
kind_more (Some x) b o = refl

this_none : (a : Option Kind) (k : Kind) → or_this a false k ≡ a
this_none None k = refl
this_none (Some l) k = refl

node_is : (fits : Kind → Bool) (p path : Path) (q : Part) → q.inside ≡ false → node_path q.own.head ≡ Some path → is_there fits p q ≡ (fits q.own.head.kind && bytes_eq path p)
node_is fits p path q out e =
    ap (λ b. not b && (fits q.own.head.kind && is_path p (node_path q.own.head))) out ∙ ap (λ o. fits q.own.head.kind && is_path p o) e

inside_none : (fits : Kind → Bool) (p : Path) (q : Part) → q.inside ≡ true → is_there fits p q ≡ false
inside_none fits p q e = ap (λ b. not b && (fits q.own.head.kind && is_path p (node_path q.own.head))) e

nameless_none : (fits : Kind → Bool) (p : Path) (q : Part) → node_path q.own.head ≡ None → is_there fits p q ≡ false
nameless_none fits p q e =
    ap (λ o. not q.inside && (fits q.own.head.kind && is_path p o)) e ∙ ap (λ b. not q.inside && b) (and_false (fits q.own.head.kind)) ∙ and_false (not q.inside)

-- one node more outside the contracts
pub sees_node : (old new : Nodes) (ps : List Part) (q : Part) (path : Path) → q.inside ≡ false → node_path q.own.head ≡ Some path
    → ((p : Path) → has_path new.values p ≡ ((has_values q.own.head.kind && bytes_eq path p) || has_path old.values p))
    → ((p : Path) → kind_under new.numbers p ≡ or_this (kind_under old.numbers p) (is_number_kind q.own.head.kind && bytes_eq path p) q.own.head.kind)
    → Sees old ps → Sees new (ps ++ q ∷ [])
sees_node old new ps q path out e values numbers s = record {
  values = λ p. values p ∙ ap₂ (λ a b. a || b) (sym (node_is has_values p path q out e)) (s.values p)
      ∙ sym (ap is_some (there_more has_values ps p q) ∙ some_more (node_there has_values ps p) (is_there has_values p q) q.own);
  numbers = λ p. numbers p ∙ ap₂ (λ a b. or_this a b q.own.head.kind) (s.numbers p) (sym (node_is is_number_kind p path q out e))
      ∙ sym (ap (option_map (λ (x : Object). x.head.kind)) (there_more is_number_kind ps p q) ∙ kind_more (node_there is_number_kind ps p) (is_there is_number_kind p q) q.own);
}

no_more : (nodes : Nodes) (ps : List Part) (q : Part) → ((fits : Kind → Bool) (p : Path) → is_there fits p q ≡ false) → Sees nodes ps → Sees nodes (ps ++ q ∷ [])
no_more nodes ps q none s = record {
  values = λ p. s.values p ∙ ap (λ b. b || is_some (node_there has_values ps p)) (sym (none has_values p))
      ∙ sym (ap is_some (there_more has_values ps p q) ∙ some_more (node_there has_values ps p) (is_there has_values p q) q.own);
  numbers = λ p. s.numbers p ∙ sym (this_none (option_map (λ (x : Object). x.head.kind) (node_there is_number_kind ps p)) q.own.head.kind)
      ∙ ap (λ b. or_this (option_map (λ (x : Object). x.head.kind) (node_there is_number_kind ps p)) b q.own.head.kind) (sym (none is_number_kind p))
      ∙ sym (ap (option_map (λ (x : Object). x.head.kind)) (there_more is_number_kind ps p q) ∙ kind_more (node_there is_number_kind ps p) (is_there is_number_kind p q) q.own);
}

-- a part inside the contracts, and one that is no node
pub sees_inside : (nodes : Nodes) (ps : List Part) (q : Part) → q.inside ≡ true → Sees nodes ps → Sees nodes (ps ++ q ∷ [])
sees_inside nodes ps q e s = no_more nodes ps q (λ fits p. inside_none fits p q e) s

pub sees_nameless : (nodes : Nodes) (ps : List Part) (q : Part) → node_path q.own.head ≡ None → Sees nodes ps → Sees nodes (ps ++ q ∷ [])
sees_nameless nodes ps q e s = no_more nodes ps q (λ fits p. nameless_none fits p q e) s

-- one path more, of a node that is asked for
pub path_put : (asked : Bool) (old new : BTreeSet (List ℕ)) (path : Path) → asked ≡ true → set.Updates (slice_cmp nat_cmp) old new path true → (p : Path) → has_path new p ≡ ((asked && bytes_eq path p) || has_path old p)
path_put asked old new path e up p =
    up.0 p ∙ ap (λ b. cond b true (has_path old p)) (is_eq-slice_cmp path p) ∙ or_cond (bytes_eq path p) (has_path old p)
    ∙ ap (λ b. (b && bytes_eq path p) || has_path old p) (sym e)

is_none : (o : Option Kind) → is_some o ≡ false → o ≡ None
is_none None h = refl
is_none (Some x) h = absurd (true≢false h)

-- one kind more, where none was
pub kind_put : (asked : Bool) (old new : BTreeMap (List ℕ) Kind) (path : Path) (k : Kind) → asked ≡ true → is_some (kind_under old path) ≡ false → tree.Updates (slice_cmp nat_cmp) old new path (Some k)
    → (p : Path) → kind_under new p ≡ or_this (kind_under old p) (asked && bytes_eq path p) k
kind_put asked old new path k e none up p =
    up.0 p ∙ ap (λ b. cond b (Some k) (kind_under old p)) (is_eq-slice_cmp path p) ∙ go (bytes_eq path p) refl
    ∙ ap (λ b. or_this (kind_under old p) (b && bytes_eq path p) k) (sym e)
  where
    go : (b : Bool) → bytes_eq path p ≡ b → cond b (Some k) (kind_under old p) ≡ or_this (kind_under old p) b k
    go true is = sym (ap (λ o. or_this o true k) (ap (kind_under old) (sym ((bytes_eq-Decides path p).0 is)) ∙ is_none (kind_under old path) none))
    go false is = sym (this_none (kind_under old p) k)

map_last : {A B : Type 0} (f : A → B) (xs : List A) (v : A) → map f (xs ++ v ∷ []) ≡ map f xs ++ f v ∷ []
map_last f [] v = refl
map_last f (x ∷ xs) v = ap (λ l. f x ∷ l) (map_last f xs v)

-- the parts up to a place, one more
pub sees_more : (nodes : Nodes) (all : List OwnPart) (i : ℕ) (x : OwnPart) → i < length all → x ≡ get_or all i x → Sees nodes (map part (take i all) ++ part x ∷ []) → Sees nodes (map part (take (i + 1) all))
sees_more nodes all i x h is s =
    subst (Sees nodes) (sym (ap (map part) (take_more all i x h ∙ ap (λ y. take i all ++ y ∷ []) (sym is)) ∙ map_last part (take i all) x)) s

pub sees_all : (nodes : Nodes) (all : List OwnPart) (i : ℕ) → length all ≤ i → Sees nodes (map part (take i all)) → Sees nodes (map part all)
sees_all nodes all i h s = subst (λ (l : List OwnPart). Sees nodes (map part l)) (take_all i all h) s
