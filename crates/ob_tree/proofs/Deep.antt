-- How many objects are round one is told by how many are round the one that it is in.
use Rattle.std.proofs.Common.{◌≡◌, ℕ, zero, suc, ◌+◌, ◌-◌, ◌<◌, ◌≤◌, Bool, true, false, cond, List, map, Option, Some, None, refl, sym, ap, ◌∙◌, arith}
use Rattle.std.specs.Prelude.{slice_get, nat_lt, max}
use Rattle.std.proofs.lemmas.Bool.{ltb-true, ltb-false, lt-ltb, le-ltb}
use Rattle.ob_object.specs.declared.head.Head.{Head}
use Rattle.ob_object.specs.Object.{Objects, none, node, Object, count, parts}
use Rattle.ob_tree.specs.declared.spot.Spot.{Spot}
use Rattle.ob_tree.specs.Laid.{spots_of}
use Rattle.ob_tree.specs.Shown.{row}
use Rattle.ob_tree.specs.Depths.{depth_in, depth_at, levels, DepthsAreLevels}
use Rattle.ob_tree.proofs.Touched.{parents, parent_in, parent_behind, one_row}

-- The object that one is in has one fewer round it; at the top of the row none is.
data Deep (a : ℕ) (q : Option ℕ) (r : Objects) (m : ℕ) : Type 0 where
  top : slice_get (parents a q r) m ≡ Some q → depth_in m r ≡ 0 → Deep a q r m
  below : (p k : ℕ) → slice_get (parents a q r) m ≡ Some (Some p) → p ≡ a + k → k < m → depth_in m r ≡ depth_in k r + 1 → Deep a q r m

inner_depth : (h : Head) (i r : Objects) (m : ℕ) → m < count i → depth_in (suc m) (node h i r) ≡ depth_in m i + 1
inner_depth h i r m lt = ap (λ (b : Bool). cond b (depth_in m i + 1) (depth_in (m - count i) r)) (lt-ltb m (count i) lt)

rest_depth : (h : Head) (i r : Objects) (m : ℕ) → count i ≤ m → depth_in (suc m) (node h i r) ≡ depth_in (m - count i) r
rest_depth h i r m le = ap (λ (b : Bool). cond b (depth_in m i + 1) (depth_in (m - count i) r)) (le-ltb m (count i) le)

from_inner : (a : ℕ) (q : Option ℕ) (h : Head) (i r : Objects) (m : ℕ) → m < count i → Deep (a + 1) (Some a) i m → Deep a q (node h i r) (suc m)
from_inner a q h i r m lt (top pe de) =
    below a zero (parent_in a q h i r m lt ∙ pe) (omega arith) (omega arith) (inner_depth h i r m lt ∙ ap (λ (d : ℕ). d + 1) de)
from_inner a q h i r m lt (below p k pe at less de) =
    let inside : k < count i = omega (arith, less, lt) in
    below p (suc k) (parent_in a q h i r m lt ∙ pe) (omega (arith, at)) (omega (arith, less))
    (inner_depth h i r m lt ∙ ap (λ (d : ℕ). d + 1) (de ∙ sym (inner_depth h i r k inside)))

from_rest : (a : ℕ) (q : Option ℕ) (h : Head) (i r : Objects) (m : ℕ) → count i ≤ m → Deep (a + (count i + 1)) q r (m - count i) → Deep a q (node h i r) (suc m)
from_rest a q h i r m le (top pe de) = top (parent_behind a q h i r m le ∙ pe) (rest_depth h i r m le ∙ de)
from_rest a q h i r m le (below p k pe at less de) =
    let past : count i ≤ count i + k = omega arith in
    let back : count i + k - count i ≡ k = omega arith in
    below p (suc (count i + k)) (parent_behind a q h i r m le ∙ pe) (omega (arith, at)) (omega (arith, less, le))
    (rest_depth h i r m le ∙ de ∙ ap (λ (d : ℕ). d + 1) (sym (rest_depth h i r (count i + k) past ∙ ap (λ (n : ℕ). depth_in n r) back)))

from_by : (a : ℕ) (q : Option ℕ) (h : Head) (i r : Objects) (m : ℕ) (b : Bool) → nat_lt m (count i) ≡ b → m < count i + count r
    → ((a : ℕ) (q : Option ℕ) (m : ℕ) → m < count i → Deep a q i m) → ((a : ℕ) (q : Option ℕ) (m : ℕ) → m < count r → Deep a q r m)
    → Deep a q (node h i r) (suc m)
from_by a q h i r m true is lt left right =
    let inside : m < count i = ltb-true m (count i) is in from_inner a q h i r m inside (left (a + 1) (Some a) m inside)
from_by a q h i r m false is lt left right =
    let outside : count i ≤ m = ltb-false m (count i) is in from_rest a q h i r m outside (right (a + (count i + 1)) q (m - count i) (omega (arith, outside, lt)))

from : (r : Objects) (a : ℕ) (q : Option ℕ) (m : ℕ) → m < count r → Deep a q r m
from none a q m lt = absurd (omega (arith, lt))
from (node h i r) a q zero lt = top refl refl
from (node h i r) a q (suc m) lt = from_by a q h i r m (nat_lt m (count i)) refl (omega (arith, lt)) (from i) (from r)

below_by : (o : Object) (n p : ℕ) → slice_get (parents 0 None (row o)) n ≡ Some (Some p) → Deep 0 None (row o) n → depth_at n o ≡ depth_at p o + 1
below_by o n p is (top pe de) = absurd cc
below_by o n p is (below k j pe at less de) =
    let same : j ≡ p = let e : k ≡ p = cc in omega (arith, e, at) in de ∙ ap (λ (m : ℕ). depth_in m (row o) + 1) same

top_by : (o : Object) (n : ℕ) → slice_get (parents 0 None (row o)) n ≡ Some None → Deep 0 None (row o) n → depth_at n o ≡ 0
top_by o n is (top pe de) = de
top_by o n is (below k j pe at less de) = absurd cc

pub depth_below : (o : Object) (ss : List Spot) (n p : ℕ) → ss ≡ spots_of 0 None o → n < parts o → slice_get (map (λ (s : Spot). s.parent) ss) n ≡ Some (Some p) → depth_at n o ≡ depth_at p o + 1
depth_below o ss n p s lt is =
    below_by o n p (ap (λ (l : List Spot). slice_get (map (λ (t : Spot). t.parent) l) n) (one_row o 0 None ∙ sym s) ∙ is) (from (row o) 0 None n (omega (arith, lt)))

pub depth_top : (o : Object) (ss : List Spot) (n : ℕ) → ss ≡ spots_of 0 None o → n < parts o → slice_get (map (λ (s : Spot). s.parent) ss) n ≡ Some None → depth_at n o ≡ 0
depth_top o ss n s lt is =
    top_by o n (ap (λ (l : List Spot). slice_get (map (λ (t : Spot). t.parent) l) n) (one_row o 0 None ∙ sym s) ∙ is) (from (row o) 0 None n (omega (arith, lt)))

-- and there are more levels than that
fewer : (r : Objects) (n : ℕ) → n < count r → depth_in n r < levels r
fewer none n lt = absurd (omega (arith, lt))
fewer (node h i r) zero lt = omega arith
fewer (node h i r) (suc n) lt = go (nat_lt n (count i)) refl (fewer i n) (fewer r (n - count i))
  where
    go : (b : Bool) → nat_lt n (count i) ≡ b → (n < count i → depth_in n i < levels i) → (n - count i < count r → depth_in (n - count i) r < levels r)
        → cond b (depth_in n i + 1) (depth_in (n - count i) r) < max (levels i + 1) (levels r)
    go true is deep later = omega (arith, deep (ltb-true n (count i) is))
    go false is deep later = omega (arith, later (omega (arith, lt, ltb-false n (count i) is)))

pub depths_are_levels : DepthsAreLevels
depths_are_levels o n lt = fewer (row o) n (omega (arith, lt))
