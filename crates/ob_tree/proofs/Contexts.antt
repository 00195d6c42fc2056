-- What an object takes from where it stands is handed down by the object that it is in.
use Rattle.std.proofs.Common.{◌≡◌, ℕ, zero, suc, ◌+◌, ◌-◌, ◌<◌, ◌≤◌, Bool, true, false, cond, List, ◌∷◌, length, map, Option, Some, None, option_map, refl, sym, ap, ◌∙◌, arith}
use Rattle.std.specs.Prelude.{slice_get, nat_lt}
use Rattle.std.proofs.lemmas.Bool.{ltb-true, ltb-false, lt-ltb, le-ltb}
use Rattle.std.proofs.lemmas.List.{append-nil}
use Rattle.ob_object.specs.declared.head.Head.{Head}
use Rattle.ob_object.specs.Object.{Objects, none, node, Object, count, parts}
use Rattle.ob_contracts.specs.Inherit.{Contracts}
use Rattle.ob_tree.specs.Contexts.{Context, HandedDown, at_root, handed_down, under}
use Rattle.std.proofs.lemmas.Option.{slice_get-map}
use Rattle.ob_tree.specs.declared.spot.Spot.{Spot}
use Rattle.ob_tree.specs.Laid.{heads, heads_of, spots_of, head_at}
use Rattle.ob_tree.specs.Shown.{at_top, handed, handed_in, handed_at, standing_at, row}
use Rattle.ob_tree.proofs.Changing.{length-heads, got_left, got_right}
use Rattle.ob_tree.proofs.Touched.{parents, parent_in, parent_behind, one_row}

-- The object that one is in hands down what it takes; at the top of the row it is what the row takes.
pub data From (c : HandedDown) (a : ℕ) (q : Option ℕ) (r : Objects) (m : ℕ) : Type 0 where
  top : slice_get (parents a q r) m ≡ Some q → handed_in c m r ≡ c → From c a q r m
  below : (p k : ℕ) (g : Head) → slice_get (parents a q r) m ≡ Some (Some p) → p ≡ a + k → k < m → slice_get (heads r) k ≡ Some g → handed_in c m r ≡ handed (handed_in c k r) g → From c a q r m

pub inner_context : (c : HandedDown) (h : Head) (i r : Objects) (m : ℕ) → m < count i → handed_in c (suc m) (node h i r) ≡ handed_in (handed c h) m i
inner_context c h i r m lt = ap (λ (b : Bool). cond b (handed_in (handed c h) m i) (handed_in c (m - count i) r)) (lt-ltb m (count i) lt)

pub rest_context : (c : HandedDown) (h : Head) (i r : Objects) (m : ℕ) → count i ≤ m → handed_in c (suc m) (node h i r) ≡ handed_in c (m - count i) r
rest_context c h i r m le = ap (λ (b : Bool). cond b (handed_in (handed c h) m i) (handed_in c (m - count i) r)) (le-ltb m (count i) le)

from_inner : (c : HandedDown) (a : ℕ) (q : Option ℕ) (h : Head) (i r : Objects) (m : ℕ) → m < count i → From (handed c h) (a + 1) (Some a) i m → From c a q (node h i r) (suc m)
from_inner c a q h i r m lt (top pe ce) =
    below a zero h (parent_in a q h i r m lt ∙ pe) (omega arith) (omega arith) refl (inner_context c h i r m lt ∙ ce)
from_inner c a q h i r m lt (below p k g pe at less here ce) =
    let inside : k < count i = omega arith in
    below p (suc k) g (parent_in a q h i r m lt ∙ pe) (omega arith) (omega arith) (got_left (heads i) (heads r) k (omega (arith, length-heads i)) ∙ here)
    (inner_context c h i r m lt ∙ ce ∙ ap (λ (d : HandedDown). handed d g) (sym (inner_context c h i r k inside)))

from_rest : (c : HandedDown) (a : ℕ) (q : Option ℕ) (h : Head) (i r : Objects) (m : ℕ) → count i ≤ m → From c (a + (count i + 1)) q r (m - count i) → From c a q (node h i r) (suc m)
from_rest c a q h i r m le (top pe ce) = top (parent_behind a q h i r m le ∙ pe) (rest_context c h i r m le ∙ ce)
from_rest c a q h i r m le (below p k g pe at less here ce) =
    let past : count i ≤ count i + k = omega arith in
    let back : count i + k - count i ≡ k = omega arith in
    let far : length (heads i) ≤ count i + k = omega (arith, length-heads i) in
    below p (suc (count i + k)) g (parent_behind a q h i r m le ∙ pe) (omega arith) (omega arith)
    (got_right (heads i) (heads r) (count i + k) far ∙ ap (slice_get (heads r)) (omega (arith, length-heads i)) ∙ here)
    (rest_context c h i r m le ∙ ce ∙ ap (λ (d : HandedDown). handed d g) (sym (rest_context c h i r (count i + k) past ∙ ap (λ (n : ℕ). handed_in c n r) back)))

from_by : (c : HandedDown) (a : ℕ) (q : Option ℕ) (h : Head) (i r : Objects) (m : ℕ) (b : Bool) → nat_lt m (count i) ≡ b → m < count i + count r
    → ((c : HandedDown) (a : ℕ) (q : Option ℕ) (m : ℕ) → m < count i → From c a q i m) → ((c : HandedDown) (a : ℕ) (q : Option ℕ) (m : ℕ) → m < count r → From c a q r m)
    → From c a q (node h i r) (suc m)
from_by c a q h i r m true is lt left right =
    let inside : m < count i = ltb-true m (count i) is in from_inner c a q h i r m inside (left (handed c h) (a + 1) (Some a) m inside)
from_by c a q h i r m false is lt left right =
    let outside : count i ≤ m = ltb-false m (count i) is in from_rest c a q h i r m outside (right c (a + (count i + 1)) q (m - count i) (omega arith))

pub from : (r : Objects) (c : HandedDown) (a : ℕ) (q : Option ℕ) (m : ℕ) → m < count r → From c a q r m
from none c a q m lt = absurd (omega arith)
from (node h i r) c a q zero lt = top refl refl
from (node h i r) c a q (suc m) lt = from_by c a q h i r m (nat_lt m (count i)) refl (omega arith) (from i) (from r)

pub heads_row : (o : Object) → heads (row o) ≡ heads_of o
heads_row o = ap (λ (l : List Head). o.head ∷ l) (append-nil (heads o.inner))

below_by : (lib : Contracts) (o : Object) (n p : ℕ) (g : Head) → slice_get (parents 0 None (row o)) n ≡ Some (Some p) → head_at p o ≡ Some g → From (at_top lib) 0 None (row o) n
    → handed_at lib n o ≡ handed (handed_at lib p o) g
below_by lib o n p g is there (top pe ce) = absurd cc
below_by lib o n p g is there (below k j f pe at less here ce) =
    let same : j ≡ p = let e : k ≡ p = cc in omega arith in
    let found : slice_get (heads (row o)) j ≡ Some g = ap (slice_get (heads (row o))) same ∙ ap (λ (l : List Head). slice_get l p) (heads_row o) ∙ there in
    let one : f ≡ g = cc in
    ce ∙ ap (λ (m : ℕ). handed (handed_at lib m o) f) same ∙ ap (handed (handed_at lib p o)) one

top_by : (lib : Contracts) (o : Object) (n : ℕ) → slice_get (parents 0 None (row o)) n ≡ Some None → From (at_top lib) 0 None (row o) n → handed_at lib n o ≡ at_top lib
top_by lib o n is (top pe ce) = ce
top_by lib o n is (below k j f pe at less here ce) = absurd cc

-- what an object takes that is in another one
pub context_below : (lib : Contracts) (o : Object) (ss : List Spot) (n p : ℕ) (g : Head) → ss ≡ spots_of 0 None o → n < parts o → slice_get (map (λ (s : Spot). s.parent) ss) n ≡ Some (Some p) → head_at p o ≡ Some g
    → handed_at lib n o ≡ handed (handed_at lib p o) g
context_below lib o ss n p g s lt is there =
    below_by lib o n p g (ap (λ (l : List Spot). slice_get (map (λ (t : Spot). t.parent) l) n) (one_row o 0 None ∙ sym s) ∙ is) there (from (row o) (at_top lib) 0 None n (omega arith))

pub context_top : (lib : Contracts) (o : Object) (ss : List Spot) (n : ℕ) → ss ≡ spots_of 0 None o → n < parts o → slice_get (map (λ (s : Spot). s.parent) ss) n ≡ Some None → handed_at lib n o ≡ at_top lib
context_top lib o ss n s lt is =
    top_by lib o n (ap (λ (l : List Spot). slice_get (map (λ (t : Spot). t.parent) l) n) (one_row o 0 None ∙ sym s) ∙ is) (from (row o) (at_top lib) 0 None n (omega arith))

before_by : (lib : Contracts) (o : Object) (n p : ℕ) → slice_get (parents 0 None (row o)) n ≡ Some (Some p) → From (at_top lib) 0 None (row o) n → p < n
before_by lib o n p is (top pe ce) = absurd cc
before_by lib o n p is (below k j f pe at less here ce) = let e : k ≡ p = cc in omega arith

-- an object comes behind the one that it is in
pub parent_before : (lib : Contracts) (o : Object) (ss : List Spot) (n p : ℕ) → ss ≡ spots_of 0 None o → n < parts o → slice_get (map (λ (s : Spot). s.parent) ss) n ≡ Some (Some p) → p < n
parent_before lib o ss n p s lt is =
    before_by lib o n p (ap (λ (l : List Spot). slice_get (map (λ (t : Spot). t.parent) l) n) (one_row o 0 None ∙ sym s) ∙ is) (from (row o) (at_top lib) 0 None n (omega arith))

pub parent_read : (ss : List Spot) (n : ℕ) (s : Spot) (w : Option ℕ) → slice_get ss n ≡ Some s → s.parent ≡ w → slice_get (map (λ (t : Spot). t.parent) ss) n ≡ Some w
parent_read ss n s w e is = slice_get-map (λ (t : Spot). t.parent) ss n ∙ ap (option_map (λ (t : Spot). t.parent)) e ∙ ap (λ (q : Option ℕ). Some q) is

some_same : (r s : Context) → Some r ≡ Some s → r ≡ s
some_same r s e = cc

-- where an object stands is told by where the one stands that it is in
pub stands_below : (lib : Contracts) (o : Object) (r s : Context) (n p : ℕ) (h g : Head) → Some r ≡ standing_at lib p o → head_at p o ≡ Some h → head_at n o ≡ Some g → handed_at lib n o ≡ handed (handed_at lib p o) h
    → s ≡ under (handed_down r h) g.name → Some s ≡ standing_at lib n o
stands_below lib o r s n p h g round there here down is =
    let same : r ≡ under (handed_at lib p o) h.name = some_same r (under (handed_at lib p o) h.name) (round ∙ ap (option_map (λ (x : Head). under (handed_at lib p o) x.name)) there) in
    ap (λ (x : Context). Some x) (is ∙ ap (λ (x : Context). under (handed_down x h) g.name) same ∙ ap (λ (x : HandedDown). under x g.name) (sym down))
    ∙ sym (ap (option_map (λ (x : Head). under (handed_at lib n o) x.name)) here)

under_top : (lib : Contracts) (name : Option (List ℕ)) → under (at_top lib) name ≡ at_root lib
under_top lib None = refl
under_top lib (Some name) = refl

pub stands_on_top : (lib : Contracts) (o : Object) (s : Context) (n : ℕ) (g : Head) → head_at n o ≡ Some g → handed_at lib n o ≡ at_top lib → s ≡ at_root lib → Some s ≡ standing_at lib n o
stands_on_top lib o s n g here up is =
    ap (λ (x : Context). Some x) (is ∙ sym (under_top lib g.name) ∙ ap (λ (x : HandedDown). under x g.name) (sym up))
    ∙ sym (ap (option_map (λ (x : Head). under (handed_at lib n o) x.name)) here)
