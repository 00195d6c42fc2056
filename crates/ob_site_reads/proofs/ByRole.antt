-- What is shown by the roles of a node, or else by those of others.
use Rattle.std.proofs.Common.{◌≡◌, ℕ, true, false, List, [], ◌∷◌, ◌++◌, Option, Some, None, option_map, refl, sym, ap, ◌∙◌, subst, ◌⊎◌, inl, inr}
use Rattle.std.specs.Prelude.{is_some, option_and_then, slice_get}
use Rattle.ob_object.specs.declared.head.Head.{Head}
use Rattle.ob_object.specs.Object.{Object, in_row}
use Rattle.ob_site_rules.specs.Build.{Path}
use Rattle.ob_site_rules.specs.declared.plan.Plan.{Plan}
use Rattle.ob_site_rules.specs.State.{State}
use Rattle.ob_site_rules.specs.Shown.{dressed, derived_at, shown}
use Rattle.ob_contracts.specs.Inherit.{Contracts}
use Rattle.ob_ground.specs.Grounds.{inside_at}
use Rattle.ob_tree.specs.Contexts.{Context, comes_to, handed_down, under}
use Rattle.ob_shown_laws.specs.Alike.{row}
use Rattle.ob_shown_laws.specs.Changed.{is_in, PathsDiffer}
use Rattle.ob_shown_laws.specs.OwnShown.{IsNotDerived}
use Rattle.ob_tree.specs.Laid.{paths, head_at}
use Rattle.ob_tree.specs.Paths.{place_of}
use Rattle.ob_tree.specs.Shown.{standing_at}
use Rattle.ob_shown_laws.specs.OwnTree.{own_shown_at}
use Rattle.ob_shown_laws.proofs.Owned.{own_trees_tell}
use Rattle.ob_site_reads.specs.Deriving.{IsOff, IsOffBelow, IsAmong, ShownOr}
use Rattle.ob_site_reads.specs.Parents.{IsParent}
use Rattle.ob_site_reads.proofs.Slashes.{at_parent, no_parent}

-- no own node is there
pub not_there : (plan : Plan) (s : State) (p q : Path) → None ≡ place_of q (paths s.tree) → IsOff plan s p q
not_there plan s p q e here = absurd (none_there (place_of q (paths s.tree)) e here)
  where
    none_there : (o : Option ℕ) → None ≡ o → is_some o ≡ true → ⊥
    none_there None e f = cc
    none_there (Some n) e f = cc

-- or its roles derive no such node
pub not_among : (plan : Plan) (s : State) (p q : Path) (os : List Object) (o : Option Object) → os ≡ derived_at plan s q → IsAmong p os o → o ≡ None → IsOff plan s p q
not_among plan s p q os o is there e here =
    ap (λ (l : List Object). is_in p (in_row l)) (sym is) ∙ subst (IsAmong p os) e there

-- what a child comes to where it stands in an object
pub comes_inside : (lib : Contracts) (o : Object) (n : ℕ) (d : Object) (c : Context) → Some c ≡ inside_at lib n d.head.name o
    → Some (comes_to c d) ≡ option_and_then (λ (h : Head). option_map (λ (x : Context). comes_to (under (handed_down x h) d.head.name) d) (standing_at lib n o)) (head_at n o)
comes_inside lib o n d c is = by (head_at n o) (standing_at lib n o) is
  where
    by : (h : Option Head) (s : Option Context) → Some c ≡ option_and_then (λ (x : Head). option_map (λ (y : Context). under (handed_down y x) d.head.name) s) h
        → Some (comes_to c d) ≡ option_and_then (λ (x : Head). option_map (λ (y : Context). comes_to (under (handed_down y x) d.head.name) d) s) h
    by None s e = absurd cc
    by (Some h) None e = absurd cc
    by (Some h) (Some s) e = ap (option_map (λ (y : Context). comes_to y d)) e

-- or they derive one
pub derives : (plan : Plan) (s : State) (p q : Path) (n : ℕ) (os : List Object) (d o : Object) → PathsDiffer (row (dressed plan s)) → Some n ≡ place_of q (paths s.tree) → os ≡ derived_at plan s q
    → IsAmong p os (Some d)
    → Some o ≡ option_and_then (λ (h : Head). option_map (λ (c : Context). comes_to (under (handed_down c h) d.head.name) d) (standing_at s.library n s.tree)) (head_at n s.tree)
    → shown plan s p ≡ Some o
derives plan s p q n os d o differ at is there made = go (head_at n s.tree) refl made
  where
    go : (h : Option Head) → head_at n s.tree ≡ h
        → Some o ≡ option_and_then (λ (h : Head). option_map (λ (c : Context). comes_to (under (handed_down c h) d.head.name) d) (standing_at s.library n s.tree)) h → shown plan s p ≡ Some o
    go None e f = absurd cc
    go (Some h) e f =
        (own_trees_tell plan s).derives p q n there.0 h d differ (sym at) e (ap (λ (l : List Object). slice_get l there.0) (sym is) ∙ there.1) there.2
        ∙ sym f

-- what is shown at a path is shown there whatever else holds, and where nothing is found that holds
pub still : (plan : Plan) (s : State) (p : Path) (a b : Type 0) (o : Option Object) → is_some o ≡ true → ShownOr plan s p a o → ShownOr plan s p b o
still plan s p a b None e is = absurd cc
still plan s p a b (Some x) e is = is

pub off_there : (plan : Plan) (s : State) (p : Path) (a : Type 0) (o : Option Object) → is_some o ≡ false → ShownOr plan s p a o → a
off_there plan s p a None e is = is
off_there plan s p a (Some x) e is = absurd cc

pub or_else_that : (plan : Plan) (s : State) (p : Path) (a b : Type 0) (o : Option Object) → (a → b) → ShownOr plan s p a o → ShownOr plan s p b o
or_else_that plan s p a b None f is = f is
or_else_that plan s p a b (Some x) f is = is

-- the node that a path can be derived in has another path's front, with a slash behind it or without
pub off_parent : (plan : Plan) (s : State) (p front : Path) → IsParent p (Some front) → IsOff plan s p front → IsOff plan s p (front ++ 47 ∷ []) → IsOffBelow plan s p
off_parent plan s p front is plain slashed q name free e = go (at_parent p q name front is free e)
  where
    go : (q ≡ front) ⊎ (q ≡ front ++ 47 ∷ []) → IsOff plan s p q
    go (inl same) = subst (IsOff plan s p) (sym same) plain
    go (inr same) = subst (IsOff plan s p) (sym same) slashed

pub off_no_parent : (plan : Plan) (s : State) (p : Path) → IsParent p None → IsOffBelow plan s p
off_no_parent plan s p none q name free e = absurd (no_parent p q name none e)

-- where neither an own node nor a role has a path, nothing is shown
pub nothing : (plan : Plan) (s : State) (p : Path) (o : Option Object) → None ≡ place_of p (paths s.tree) → ShownOr plan s p (IsNotDerived plan s p (row s.tree)) o → o ≡ shown plan s p
nothing plan s p None here off =
    ap (option_and_then (own_shown_at plan s)) here ∙ sym ((own_trees_tell plan s).shows p off)
nothing plan s p (Some x) here is = sym is
