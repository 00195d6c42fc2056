-- The child of a name, by its number in a tree.
use Rattle.std.proofs.Common.{ℕ, ◌≡◌, suc, ◌+◌, ◌-◌, ◌<◌, ◌≤◌, Bool, true, false, cond, Option, Some, None, refl, sym, ap, ◌∙◌, arith}
use Rattle.std.proofs.lemmas.Bool.{le-ltb}
use Rattle.ob_object.specs.declared.head.Head.{Head}
use Rattle.ob_object.specs.Object.{Objects, none, node, Object, count, listed}
use Rattle.ob_object.specs.WellFormed.{has_name, named}
use Rattle.ob_site_rules.specs.Build.{Text, child}
use Rattle.ob_tree.specs.Children.{named_from, child_at}
use Rattle.ob_tree.specs.Shown.{part_in, part_at}
use Rattle.ob_tree.proofs.Growing.{Grows, grows_for}

-- the objects of a row are those of a tree from a number on
abbrev pub Lies : Object → ℕ → Objects → Type 0
Lies o from r = (i : ℕ) → i < count r → part_at (from + i) o ≡ part_in i r

pub lies_first : (o : Object) (from : ℕ) (h : Head) (inner rest : Objects) → Lies o from (node h inner rest) → part_at from o ≡ Some (record { head = h; inner = inner })
lies_first o from h inner rest lies =
    let here : from ≡ from + 0 = omega arith in ap (λ (m : ℕ). part_at m o) here ∙ lies 0 (omega arith)

pub lies_rest : (o : Object) (from : ℕ) (h : Head) (inner rest : Objects) → Lies o from (node h inner rest) → Lies o (from + (count inner + 1)) rest
lies_rest o from h inner rest lies i lt =
    let one : from + (count inner + 1) + i ≡ from + suc (count inner + i) = omega arith in
    let past : count inner ≤ count inner + i = omega arith in
    let off : count inner + i - count inner ≡ i = omega arith in
    ap (λ (m : ℕ). part_at m o) one
    ∙ lies (suc (count inner + i)) (omega (arith, lt))
    ∙ ap (λ (b : Bool). cond b (part_in (count inner + i) inner) (part_in (count inner + i - count inner) rest)) (le-ltb (count inner + i) (count inner) past)
    ∙ ap (λ (m : ℕ). part_in m rest) off

-- the first object of a name in a row, and its number
abbrev Named : Object → Option ℕ → Option Object → Type 0
Named o None None = Unit {0}
Named o None (Some x) = ⊥
Named o (Some k) None = ⊥
Named o (Some k) (Some x) = part_at k o ≡ Some x

named_in : (o : Object) (name : Text) (from : ℕ) (r : Objects) → Lies o from r → Named o (named_from from name r) (named name (listed r))
named_in o name from none lies = tt
named_in o name from (node h inner rest) lies = go (has_name name h.name) (named_in o name (from + (count inner + 1)) rest (lies_rest o from h inner rest lies))
  where
    go : (b : Bool) → Named o (named_from (from + (count inner + 1)) name rest) (named name (listed rest))
        → Named o (cond b (Some from) (named_from (from + (count inner + 1)) name rest)) (cond b (Some (record { head = h; inner = inner })) (named name (listed rest)))
    go true later = lies_first o from h inner rest lies
    go false later = later

-- the objects in the root are those from the first number on
pub lies_in : (o : Object) → Lies o 1 o.inner
lies_in o =
    let g : Grows o 0 o = grows_for o o 0 (omega arith) refl in λ i lt. g.inside i (1 + i) (omega arith) lt

child_named : (o : Object) (name : Text) → Named o (child_at 0 name o) (child name o)
child_named o name = named_in o name 1 o.inner (lies_in o)

-- the child is the object of its number
pub child_is : (o x : Object) (name : Text) (k : ℕ) → Some k ≡ child_at 0 name o → part_at k o ≡ Some x → child name o ≡ Some x
child_is o x name k at there = go (child_at 0 name o) (child name o) (child_named o name) at
  where
    go : (n : Option ℕ) (y : Option Object) → Named o n y → Some k ≡ n → y ≡ Some x
    go None None e f = absurd cc
    go None (Some y) e f = absurd e
    go (Some m) None e f = absurd e
    go (Some m) (Some y) e f =
        let same : k ≡ m = cc in
        let one : part_at m o ≡ Some y = e in
        sym one ∙ sym (ap (λ (j : ℕ). part_at j o) same) ∙ there

-- and where there is none, there is none by number
pub child_not : (o : Object) (name : Text) → None ≡ child_at 0 name o → child name o ≡ None
child_not o name at = go (child_at 0 name o) (child name o) (child_named o name) at
  where
    go : (n : Option ℕ) (y : Option Object) → Named o n y → None ≡ n → y ≡ None
    go None None e f = refl
    go None (Some y) e f = absurd e
    go (Some m) None e f = absurd e
    go (Some m) (Some y) e f = absurd cc
