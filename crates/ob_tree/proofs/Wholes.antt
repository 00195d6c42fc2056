-- What is shown at an object, put together.
use Rattle.std.proofs.Common.{◌≡◌, ℕ, ◌<◌, List, Some, sym, ap, ◌∙◌, subst}
use Rattle.std.specs.Prelude.{option_map}
use Rattle.ob_object.specs.declared.head.Head.{Head}
use Rattle.ob_object.specs.Object.{Object, parts}
use Rattle.ob_contracts.specs.Inherit.{Contracts}
use Rattle.ob_tree.specs.Contexts.{Context, under, comes_to}
use Rattle.ob_tree.specs.declared.spot.Spot.{Spot}
use Rattle.ob_tree.specs.Laid.{object_of, said}
use Rattle.ob_tree.specs.Shown.{part_at, handed_at, effective_in, shown_at, standing_at}
use Rattle.ob_tree.proofs.Growing.{grows_for}

pub one_standing : (r s : Context) → Some r ≡ Some s → r ≡ s
one_standing r s e = cc

pub whole_shown : (lib : Contracts) (o t : Object) (n : ℕ) (p made : Object) (c : Context) → o ≡ t → n < parts o → Some p ≡ part_at n o → Some c ≡ standing_at lib n o → made ≡ comes_to c p → Some made ≡ shown_at lib n t
whole_shown lib o t n p made c same lt is stands e =
    let there = (grows_for o p n lt (sym is)).head_is in
    let one : c ≡ under (handed_at lib n o) p.head.name = one_standing c (under (handed_at lib n o) p.head.name) (stands ∙ ap (option_map (λ (h : Head). under (handed_at lib n o) h.name)) there) in
    subst (λ (x : Object). Some made ≡ shown_at lib n x) same
    (ap (λ (m : Object). Some m) e
    ∙ ap (λ (x : Context). Some (comes_to x p)) one
    ∙ ap (option_map (effective_in (handed_at lib n o))) is)

pub same_object : (os ps : List Object) (ss ts : List Spot) (o : Object) → os ≡ ps → ss ≡ ts → object_of (said ps) ts ≡ o → object_of (said os) ss ≡ o
same_object os ps ss ts o e f g = ap (λ (l : List Object). object_of (said l) ss) e ∙ ap (object_of (said ps)) f ∙ g
