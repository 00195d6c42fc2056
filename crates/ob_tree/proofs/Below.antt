-- The children of an object one after another, and what each of them takes.
use Rattle.std.proofs.Common.{◌≡◌, ℕ, zero, suc, ◌+◌, ◌-◌, ◌<◌, ◌≤◌, Bool, true, false, cond, List, take, Option, Some, None, refl, sym, ap, ◌∙◌, subst, arith}
use Rattle.std.specs.Prelude.{slice_get, nat_lt}
use Rattle.std.proofs.lemmas.Bool.{ltb-true, ltb-false}
use Rattle.ob_object.specs.declared.head.Head.{Head}
use Rattle.ob_object.specs.Object.{Objects, none, node, Object, count, parts, listed, in_row}
use Rattle.ob_object.specs.WellFormed.{IsWellFormed}
use Rattle.ob_contracts.specs.Inherit.{Contracts}
use Rattle.ob_tree.specs.Contexts.{Context, HandedDown, handed_down, under}
use Rattle.ob_tree.specs.declared.spot.Spot.{Spot}
use Rattle.ob_tree.specs.Laid.{object, spots_of, width, head_at}
use Rattle.ob_tree.specs.Shown.{part_in, part_at, row, at_top, handed, handed_in, handed_at, standing_at}
use Rattle.ob_tree.proofs.Contexts.{inner_context, rest_context, stands_below}
use Rattle.ob_tree.proofs.Parts.{part_of}
use Rattle.ob_tree.proofs.Growing.{first, child_there, Grows, grows, grows_for, next_of, read_spot}

part_within : (r : Objects) (n : ℕ) (p : Object) → n < count r → part_in n r ≡ Some p → n + parts p ≤ count r
part_within r n p lt is =
    let f = part_of r 0 None n lt in
    let there : part_in n r ≡ Some f.0 = f.1.is in
    let same : f.0 ≡ p = cc in
    subst (λ (x : Object). n + parts x ≤ count r) same f.1.within

-- what the objects in an object take, by their numbers in it
abbrev Inside : HandedDown → Objects → ℕ → Object → Type 0
Inside c r n p = (j m : ℕ) → m ≡ n + suc j → j < count p.inner → handed_in c m r ≡ handed_in (handed (handed_in c n r) p.head) j p.inner

inside_by : (h : Head) (i r : Objects) (c : HandedDown) (n : ℕ) (p : Object) (b : Bool) → nat_lt n (count i) ≡ b → cond b (part_in n i) (part_in (n - count i) r) ≡ Some p
    → ((n : ℕ) → part_in n i ≡ Some p → Inside (handed c h) i n p) → ((n : ℕ) → part_in n r ≡ Some p → Inside c r n p) → Inside c (node h i r) (suc n) p
inside_by h i r c n p true at is left right = λ j m e lt.
    let here : n < count i = ltb-true n (count i) at in
    let within : n + parts p ≤ count i = part_within i n p here is in
    let number : m ≡ suc (n + suc j) = omega arith in
    ap (λ (k : ℕ). handed_in c k (node h i r)) number
    ∙ inner_context c h i r (n + suc j) (omega arith)
    ∙ left n is j (n + suc j) refl lt
    ∙ ap (λ (d : HandedDown). handed_in (handed d p.head) j p.inner) (sym (inner_context c h i r n here))
inside_by h i r c n p false at is left right = λ j m e lt.
    let past : count i ≤ n = ltb-false n (count i) at in
    let number : m ≡ suc (n + suc j) = omega arith in
    let back : n + suc j - count i ≡ n - count i + suc j = omega arith in
    ap (λ (k : ℕ). handed_in c k (node h i r)) number
    ∙ rest_context c h i r (n + suc j) (omega arith)
    ∙ right (n - count i) is j (n + suc j - count i) back lt
    ∙ ap (λ (d : HandedDown). handed_in (handed d p.head) j p.inner) (sym (rest_context c h i r n past))

inside : (r : Objects) (c : HandedDown) (n : ℕ) (p : Object) → part_in n r ≡ Some p → Inside c r n p
inside none c n p is = absurd cc
inside (node h i r) c zero p is = λ j m e lt.
    let same : object h i ≡ p = cc in
    let here : j < count i = subst (λ (x : Object). j < count x.inner) (sym same) lt in
    let number : m ≡ suc j = omega arith in
    ap (λ (k : ℕ). handed_in c k (node h i r)) number
    ∙ inner_context c h i r j here
    ∙ ap (λ (x : Object). handed_in (handed c x.head) j x.inner) same
inside (node h i r) c (suc n) p is = inside_by h i r c n p (nat_lt n (count i)) refl is (λ m at. inside i (handed c h) m p at) (λ m at. inside r c m p at)

-- a child takes what its row takes
child_takes : (r : Objects) (c : HandedDown) (k : ℕ) → k < width r → handed_in c (count (first k r)) r ≡ c
child_takes none c k lt = absurd (omega arith)
child_takes (node h i r) c zero lt = refl
child_takes (node h i r) c (suc k) lt =
    let before = count (first k r) in
    let at : count i + before + 1 ≡ suc (count i + before) = omega arith in
    let past : count i ≤ count i + before = omega arith in
    let back : count i + before - count i ≡ before = omega arith in
    ap (λ (m : ℕ). handed_in c m (node h i r)) at ∙ rest_context c h i r (count i + before) past ∙ ap (λ (m : ℕ). handed_in c m r) back ∙ child_takes r c k (omega arith)

handed_below : (lib : Contracts) (o p : Object) (n k next : ℕ) → part_at n o ≡ Some p → next ≡ n + (count (first k p.inner) + 1) → k < width p.inner → handed_at lib next o ≡ handed (handed_at lib n o) p.head
handed_below lib o p n k next is e lt =
    let f = child_there p.inner k lt in
    inside (row o) (at_top lib) n p is (count (first k p.inner)) next (omega arith) (omega (arith, f.2))
    ∙ child_takes p.inner (handed (handed_at lib n o) p.head) k lt

-- the number of a child of the object of a number
abbrev pub IsChild : Object → ℕ → ℕ → ℕ → Type 0
IsChild o n k next = (p : Object) → part_at n o ≡ Some p → next ≡ n + (count (first k p.inner) + 1)

pub first_child : (o : Object) (n : ℕ) → IsChild o n 0 (n + 1)
first_child o n = λ p is. omega arith

-- the child that comes next, and the object that it is in
pub record Child (o : Object) (n k next : ℕ) : Type 0 where
  pub p : Object
  pub x : Object
  pub is : part_at n o ≡ Some p
  pub head_is : head_at n o ≡ Some p.head
  pub grows : Grows o next x
  pub less : next < parts o
  pub more : n < next
  pub takes : (lib : Contracts) → handed_at lib next o ≡ handed (handed_at lib n o) p.head
  pub counted : next + (count x.inner + 1) ≡ n + (count (first (suc k) p.inner) + 1)

pub child_at : (o : Object) (ss : List Spot) (n k next : ℕ) (s : Spot) → ss ≡ spots_of 0 None o → IsWellFormed o → n < parts o → slice_get ss n ≡ Some s → k < s.len → IsChild o n k next → Child o n k next
child_at o ss n k next s e well lt at below number =
    let f = grows o n lt in
    let size = read_spot o f.0 ss n s e f.1 at in
    let few : k < width f.0.inner = omega (arith, size.0) in
    let up = number f.0 f.1.is in
    let child = next_of o f.0 n k next f.1 well up few in
    let less : next < parts o = omega (arith, child.1.within, f.1.within) in
    record {
      p = f.0;
      x = child.0;
      is = f.1.is;
      head_is = f.1.head_is;
      grows = grows_for o child.0 next less child.1.is;
      less = less;
      more = omega (arith, up);
      takes = λ lib. handed_below lib o f.0 n k next f.1.is up few;
      counted = omega (arith, up, child.1.counted);
    }

pub next_child : (o : Object) (ss : List Spot) (n k next : ℕ) (s : Spot) → ss ≡ spots_of 0 None o → (c : Child o n k next) → slice_get ss next ≡ Some s → IsChild o n (k + 1) s.end
next_child o ss n k next s e c at = λ q is.
    let there : part_at n o ≡ Some c.p = c.is in
    let same : c.p ≡ q = cc in
    let size = read_spot o c.x ss next s e c.grows at in
    let more : suc k ≡ k + 1 = omega arith in
    size.1 ∙ c.counted ∙ ap (λ (j : ℕ). n + (count (first j c.p.inner) + 1)) more ∙ ap (λ (x : Object). n + (count (first (k + 1) x.inner) + 1)) same

-- where a child stands is told by where the object stands that it is in
pub child_stands : (lib : Contracts) (o : Object) (r s : Context) (n k next : ℕ) (own child : Head) → Child o n k next → Some r ≡ standing_at lib n o → head_at n o ≡ Some own → head_at next o ≡ Some child
    → s ≡ under (handed_down r own) child.name → Some s ≡ standing_at lib next o
child_stands lib o r s n k next own child c round there here is =
    let up : head_at n o ≡ Some c.p.head = c.head_is in
    let same : c.p.head ≡ own = cc in
    stands_below lib o r s next n own child round there here (c.takes lib ∙ ap (handed (handed_at lib n o)) same) is
