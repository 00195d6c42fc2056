-- Objects that are kept without their children.
use Rattle.std.proofs.Common.{◌≡◌, ℕ, zero, suc, ◌<◌, IsTrue, List, [], ◌∷◌, length, map, set, get_or, Option, Some, None, option_map, refl, sym, ap, ◌∙◌, subst, arith}
use Rattle.std.specs.Prelude.{String, slice_get, option_and_then}
use Rattle.std.specs.BTreeMap.{BTreeMap}
use Rattle.std.proofs.lemmas.List.{length-map, get_or-map}
use Rattle.std.proofs.lemmas.Option.{slice_get-map}
use Rattle.ob_object.specs.declared.head.Head.{Head}
use Rattle.ob_object.specs.Fits.{fits_head}
use Rattle.ob_object.specs.Object.{Object, none, parts}
use Rattle.ob_object.specs.Paths.{node_path}
use Rattle.ob_tree.specs.declared.spot.Spot.{Spot}
use Rattle.ob_tree.specs.Paths.{Path}
use Rattle.ob_tree.specs.Laid.{object, leaf, said, AreLeaves, heads_of, object_of, head_at, changed}
use Rattle.ob_tree.specs.Shown.{AreLaid}
use Rattle.ob_tree.specs.Trees.{IsLaid, IsArena}
use Rattle.ob_tree.proofs.Changing.{heads-changed}
use Rattle.ob_tree.proofs.StandsFor.{count_heads, at_head, laid_changed, stands_changed}

pub said_below : (os : List Object) (n : ℕ) → n < length os → n < length (said os)
said_below os n lt = omega (arith, length-map os (λ (o : Object). o.head))

pub said_or : (os : List Object) (n : ℕ) (x : Object) → n < length os → x ≡ get_or os n x → x.head ≡ get_or (said os) n x.head
said_or os n x lt e = ap (λ (o : Object). o.head) e ∙ sym (get_or-map (λ (o : Object). o.head) os n x x.head lt)

pub said_read : (os : List Object) (n : ℕ) (x : Object) → slice_get os n ≡ Some x → slice_get (said os) n ≡ Some x.head
said_read os n x e = slice_get-map (λ (o : Object). o.head) os n ∙ ap (option_map (λ (o : Object). o.head)) e

pub said_leaves : (hs : List Head) → said (map leaf hs) ≡ hs
said_leaves [] = refl
said_leaves (h ∷ hs) = ap (λ l. h ∷ l) (said_leaves hs)

said_set : (os : List Object) (n : ℕ) (y : Object) → said (set os n y) ≡ set (said os) n y.head
said_set [] n y = refl
said_set (x ∷ os) zero y = refl
said_set (x ∷ os) (suc n) y = ap (λ l. x.head ∷ l) (said_set os n y)

pub are_leaves : (hs : List Head) → AreLeaves (map leaf hs)
are_leaves [] = tt
are_leaves (h ∷ hs) = (refl, are_leaves hs)

pub leaf_there : (os : List Object) (n : ℕ) (x : Object) → AreLeaves os → n < length os → x ≡ get_or os n x → x.inner ≡ none
leaf_there [] n x all lt e = absurd (omega arith)
leaf_there (y ∷ os) zero x all lt e = ap (λ (o : Object). o.inner) e ∙ all.0
leaf_there (y ∷ os) (suc n) x all lt e = leaf_there os n x all.1 (omega arith) e

leaves_set : (os : List Object) (n : ℕ) (y : Object) → AreLeaves os → y.inner ≡ none → AreLeaves (set os n y)
leaves_set [] n y all e = tt
leaves_set (x ∷ os) zero y all e = (e, all.1)
leaves_set (x ∷ os) (suc n) y all e = (all.0, leaves_set os n y all.1 e)

pub count_leaves : (o : Object) (os : List Object) → said os ≡ heads_of o → length os ≡ parts o
count_leaves o os h = sym (length-map os (λ (x : Object). x.head)) ∙ count_heads o (said os) h

pub leaf_within : {Y : Type 0} (t : Object) (os : List Object) (ss : List Spot) (stamps : List ℕ) (index : BTreeMap (String Y) ℕ) (n : ℕ) → IsArena os ss stamps index → object_of (said os) ss ≡ t → n < parts t → n < length os
leaf_within t os ss stamps index n a e lt = omega (arith, count_leaves (object_of (said os) ss) os a.laid.heads_are, ap parts e)

-- what an object says of itself that was read
pub at_leaf : {Y : Type 0} (t : Object) (os : List Object) (ss : List Spot) (stamps : List ℕ) (index : BTreeMap (String Y) ℕ) (n : ℕ) (x : Object) → IsArena os ss stamps index → object_of (said os) ss ≡ t → n < parts t
    → x ≡ get_or os n x → head_at n t ≡ Some x.head
at_leaf t os ss stamps index n x a e lt is =
    at_head (object_of (said os) ss) t (said os) ss stamps index n x.head a.laid e lt (said_or os n x (leaf_within t os ss stamps index n a e lt) is)

pub are_laid : {Y : Type 0} (os ps : List Object) (ss ts : List Spot) (stamps : List ℕ) (index : BTreeMap (String Y) ℕ) → IsArena os ss stamps index → ps ≡ os → ts ≡ ss → AreLaid (said ps) ts
are_laid os ps ss ts stamps index a e f =
    subst (λ (l : List Object). AreLaid (said l) ts) (sym e)
    (subst (λ (l : List Spot). AreLaid (said os) l) (sym f) (record { heads_are = a.laid.heads_are; spots_are = a.laid.spots_are; well_formed = a.laid.well_formed }))

-- A leaf that says something else of itself, with the same name and path.
pub kept : {Y : Type 0} (f : Head → Head) (n : ℕ) (t : Object) (os : List Object) (x y : Object) (ss : List Spot) (stamps : List ℕ) (index : BTreeMap (String Y) ℕ) → ((h : Head) → (f h).name ≡ h.name)
    → node_path (f x.head) ≡ node_path x.head → IsTrue (fits_head (f x.head)) → IsArena os ss stamps index → object_of (said os) ss ≡ t → n < parts t → x ≡ get_or os n x → y ≡ record x { head = f x.head }
    → IsArena (set os n y) ss stamps index
kept f n t os x y ss stamps index keeps path fits a e lt is new =
    let o : Object = object_of (said os) ss in
    let here : head_at n o ≡ Some x.head = ap (head_at n) e ∙ at_leaf t os ss stamps index n x a e lt is in
    let now : said (set os n y) ≡ set (said os) n (f x.head) = said_set os n y ∙ ap (λ (z : Object). set (said os) n z.head) new in
    record {
      leaves = leaves_set os n y a.leaves (ap (λ (z : Object). z.inner) new ∙ leaf_there os n x a.leaves (leaf_within t os ss stamps index n a e lt) is);
      laid = subst (λ (l : List Head). IsLaid (object_of l ss) l ss stamps index) (sym now) (laid_changed f n o x.head (said os) ss stamps index keeps path fits here a.laid);
    }

pub stands_kept : {Y : Type 0} (f : Head → Head) (n : ℕ) (t : Object) (os : List Object) (x y : Object) (ss : List Spot) (stamps : List ℕ) (index : BTreeMap (String Y) ℕ)
    → IsArena os ss stamps index → object_of (said os) ss ≡ t → n < parts t → x ≡ get_or os n x → y ≡ record x { head = f x.head } → object_of (said (set os n y)) ss ≡ changed f n t
stands_kept f n t os x y ss stamps index a e lt is new =
    let o : Object = object_of (said os) ss in
    let here : head_at n o ≡ Some x.head = ap (head_at n) e ∙ at_leaf t os ss stamps index n x a e lt is in
    let now : said (set os n y) ≡ set (said os) n (f x.head) = said_set os n y ∙ ap (λ (z : Object). set (said os) n z.head) new in
    ap (λ (l : List Head). object_of l ss) now ∙ stands_changed f n o x.head (said os) ss stamps index here a.laid ∙ ap (changed f n) e

pub own_leaf : (x : Object) (q : Option Head) → x.inner ≡ none → q ≡ Some x.head → Some x ≡ option_map leaf q
own_leaf x q e is = ap (λ i. Some (object x.head i)) e ∙ ap (option_map leaf) (sym is)

pub path_said : (x : Object) (q : Option Head) (r : Option Path) → Some x ≡ option_map leaf q → r ≡ node_path x.head → r ≡ option_and_then node_path q
path_said x None r e is = absurd cc
path_said x (Some h) r e is = let same : x ≡ leaf h = cc in is ∙ ap (λ (o : Object). node_path o.head) same

got_other : {A : Type 0} (xs : List A) (n k : ℕ) (a : A) → (k ≡ n → ⊥) → slice_get (set xs n a) k ≡ slice_get xs k
got_other [] n k a other = refl
got_other (x ∷ xs) zero zero a other = absurd (other refl)
got_other (x ∷ xs) zero (suc k) a other = refl
got_other (x ∷ xs) (suc n) zero a other = refl
got_other (x ∷ xs) (suc n) (suc k) a other = got_other xs n k a (λ e. other (ap suc e))

-- what the other objects say of themselves stays
pub others_stay : (f : Head → Head) (n k : ℕ) (o p : Object) (g : Head) → head_at n o ≡ Some g → p ≡ changed f n o → (k ≡ n → ⊥) → head_at k p ≡ head_at k o
others_stay f n k o p g here is other =
    ap (head_at k) is ∙ ap (λ (l : List Head). slice_get l k) (heads-changed f n o g here) ∙ got_other (heads_of o) n k (f g) other
