-- What is shown of the own children of an own object stands in what is shown of it, in front of what it inherits.
use Rattle.std.proofs.Common.{ℕ, ◌≡◌, zero, suc, ◌+◌, List, ◌++◌, map, Option, Some, option_map, sym, ap, ap₂, ◌∙◌, arith}
use Rattle.std.specs.Prelude.{option_and_then, slice_get}
use Rattle.ob_values.proofs.Lists.{some_same}
use Rattle.ob_object.specs.declared.head.Head.{Head}
use Rattle.ob_object.specs.Object.{Objects, none, node, Object, count, listed, in_row, children}
use Rattle.ob_object.specs.Paths.{node_path}
use Rattle.ob_contracts.specs.Inherit.{Contracts, Words, bare, effective_of, missing, overridden, result_of, row_results, row_with_defaults}
use Rattle.ob_site_rules.specs.Shown.{with_roles}
use Rattle.ob_site_rules.specs.State.{State}
use Rattle.ob_site_rules.specs.declared.plan.Plan.{Plan}
use Rattle.ob_tree.specs.Contexts.{Context, HandedDown, comes_to, handed_down, under}
use Rattle.ob_shown_laws.specs.Own.{derived_own}
use Rattle.ob_shown_laws.proofs.Alikes.{handed_alike}
use Rattle.ob_shown_laws.proofs.Reaching.{status_off}
use Rattle.ob_tree.specs.Laid.{head_at}
use Rattle.ob_tree.specs.Shown.{row, part_at, handed_at}
use Rattle.ob_tree.proofs.Growing.{first, grows_for}
use Rattle.ob_shown_laws.specs.OwnTree.{own_shown_at}
use Rattle.ob_site_settling.proofs.Numbered.{ChildAt, child_at, part_within}

-- own objects in a row come first in what the row comes to
own_first : (plan : Plan) (s : State) (lib : Contracts) (implied : Option Words) (above : List Object) (os : Objects) (ds ms : List Object) (k : ℕ) (y : Object) → slice_get (listed os) k ≡ Some y
    → slice_get (listed (row_with_defaults (in_row (listed (row_results lib implied above (in_row (listed (with_roles plan s os) ++ ds))) ++ ms)))) k
    ≡ Some (effective_of lib (derived_own plan s y) implied (overridden (derived_own plan s y).head.name above))
unfolding result_of
own_first plan s lib implied above none ds ms k y e = absurd cc
own_first plan s lib implied above (node h below rest) ds ms zero y e =
    ap (λ (x : Object). Some (effective_of lib (derived_own plan s x) implied (overridden (derived_own plan s x).head.name above))) (some_same e)
own_first plan s lib implied above (node h below rest) ds ms (suc k) y e = own_first plan s lib implied above rest ds ms k y e

-- so the own children of an object come first in what it comes to
child_first : (plan : Plan) (s : State) (c : Context) (x y : Object) (k : ℕ) → slice_get (children x) k ≡ Some y
    → slice_get (children (comes_to c (derived_own plan s x))) k ≡ Some (comes_to (under (handed_down c (derived_own plan s x).head) (derived_own plan s y).head.name) (derived_own plan s y))
unfolding result_of
child_first plan s c x y k e =
    let d : HandedDown = handed_down c (derived_own plan s x).head in
    own_first plan s c.library d.implied d.sources x.inner _ (map bare (missing (children (derived_own plan s x)) d.sources)) k y e

-- what is shown of an own object by its number
pub shown_by : (plan : Plan) (s : State) (n : ℕ) (x : Object) → part_at n s.tree ≡ Some x
    → own_shown_at plan s n ≡ Some (comes_to (under (handed_at s.library n s.tree) x.head.name) (derived_own plan s x))
shown_by plan s n x is =
    let head : head_at n s.tree ≡ Some x.head = (grows_for s.tree x n (omega (arith, part_within (row s.tree) n x is)) is).head_is in
    ap₂ (λ (i : Option Context) (j : Option Object). option_and_then (λ c. option_map (λ o. comes_to c (derived_own plan s o)) j) i)
    (ap (option_map (λ (h : Head). under (handed_at s.library n s.tree) h.name)) head) is

-- the child of what is shown
pub record ChildShown (plan : Plan) (s : State) (k next : ℕ) (b : Object) : Type 0 where
  pub shown : Object
  pub there : slice_get (children b) k ≡ Some shown
  pub is : Some shown ≡ own_shown_at plan s next

pub child_shown : (plan : Plan) (s : State) (n k next : ℕ) (x y b : Object) → part_at n s.tree ≡ Some x → slice_get (children x) k ≡ Some y → next ≡ n + (count (first k x.inner) + 1)
    → Some b ≡ own_shown_at plan s n → ChildShown plan s k next b
child_shown plan s n k next x y b is child at shows =
    let c : Context = under (handed_at s.library n s.tree) x.head.name in
    let dx : Object = derived_own plan s x in
    let dy : Object = derived_own plan s y in
    let here : ChildAt s.tree x n k next y = child_at s.tree x y n k next is child at in
    let whole : b ≡ comes_to c dx = some_same (shows ∙ shown_by plan s n x is) in
    let hands : handed_down c dx.head ≡ handed_at s.library next s.tree =
    handed_alike c x.head dx.head (sym (status_off plan s x.head (node_path x.head))) ∙ sym (here.handed_down s.library) in
    let name : dy.head.name ≡ y.head.name = ap (λ (h : Head). h.name) (status_off plan s y.head (node_path y.head)) in
    record {
      shown = comes_to (under (handed_down c dx.head) dy.head.name) dy;
      there = ap (λ (o : Object). slice_get (children o) k) whole ∙ child_first plan s c x y k child;
      is = ap₂ (λ (d : HandedDown) (u : Option (List ℕ)). Some (comes_to (under d u) dy)) hands name ∙ sym (shown_by plan s next y here.is);
    }
