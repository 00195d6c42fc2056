-- The own objects in one by their numbers: where they stand.
use Rattle.std.proofs.Common.{ℕ, ◌≡◌, zero, suc, ◌+◌, ◌-◌, ◌<◌, ◌≤◌, Bool, true, false, cond, Some, None, refl, sym, ap, ◌∙◌, subst, arith}
use Rattle.std.specs.Prelude.{nat_lt, slice_get}
use Rattle.std.proofs.lemmas.Bool.{ltb-true, ltb-false, lt-ltb, le-ltb}
use Rattle.ob_values.proofs.Lists.{some_same}
use Rattle.ob_object.specs.declared.head.Head.{Head}
use Rattle.ob_object.specs.Object.{Objects, none, node, Object, count, parts, listed}
use Rattle.ob_contracts.specs.Inherit.{Contracts}
use Rattle.ob_tree.specs.Contexts.{HandedDown}
use Rattle.ob_tree.specs.Laid.{object}
use Rattle.ob_tree.specs.Shown.{row, part_in, part_at, at_top, handed, handed_in, handed_at}
use Rattle.ob_tree.proofs.Growing.{first}
use Rattle.ob_tree.proofs.Parts.{PartOf, part_of, child_part, first_number}

-- the object of a number ends where the row does, or before
within_by : (n : ℕ) (i r : Objects) (p : Object) (b : Bool) → nat_lt n (count i) ≡ b → cond b (part_in n i) (part_in (n - count i) r) ≡ Some p
    → (part_in n i ≡ Some p → n + parts p ≤ count i) → (part_in (n - count i) r ≡ Some p → n - count i + parts p ≤ count r) → suc n + parts p ≤ count i + count r + 1
within_by n i r p true is e left right = omega (arith, left e)
within_by n i r p false is e left right = omega (arith, right e, ltb-false n (count i) is)

pub part_within : (r : Objects) (n : ℕ) (p : Object) → part_in n r ≡ Some p → n + parts p ≤ count r
part_within none n p e = absurd cc
part_within (node h i r) zero p e =
    let same : count i ≡ count p.inner = ap (λ (x : Object). count x.inner) (some_same e) in
    omega (arith, same)
part_within (node h i r) (suc n) p e = within_by n i r p (nat_lt n (count i)) refl e (part_within i n p) (part_within r (n - count i) p)

-- what is handed down in a row
inner_handed : (c : HandedDown) (h : Head) (i r : Objects) (m : ℕ) → m < count i → handed_in c (suc m) (node h i r) ≡ handed_in (handed c h) m i
inner_handed c h i r m lt = ap (λ (b : Bool). cond b (handed_in (handed c h) m i) (handed_in c (m - count i) r)) (lt-ltb m (count i) lt)

rest_handed : (c : HandedDown) (h : Head) (i r : Objects) (m : ℕ) → count i ≤ m → handed_in c (suc m) (node h i r) ≡ handed_in c (m - count i) r
rest_handed c h i r m le = ap (λ (b : Bool). cond b (handed_in (handed c h) m i) (handed_in c (m - count i) r)) (le-ltb m (count i) le)

-- what an object of a row hands down, and what is handed down in it
abbrev HandsDown : HandedDown → Objects → ℕ → Object → Type 0
HandsDown c r n p = (j m : ℕ) → m ≡ n + suc j → j < count p.inner → handed_in c m r ≡ handed_in (handed (handed_in c n r) p.head) j p.inner

next_number : (n j m : ℕ) → m ≡ suc n + suc j → m ≡ suc (n + suc j)
next_number n j m e = omega arith

hands_by : (c : HandedDown) (h : Head) (i r : Objects) (n : ℕ) (p : Object) (b : Bool) → nat_lt n (count i) ≡ b → cond b (part_in n i) (part_in (n - count i) r) ≡ Some p
    → (part_in n i ≡ Some p → HandsDown (handed c h) i n p) → (part_in (n - count i) r ≡ Some p → HandsDown c r (n - count i) p) → HandsDown c (node h i r) (suc n) p
hands_by c h i r n p true is e left right j m at lt =
    let within : n + parts p ≤ count i = part_within i n p e in
    ap (λ (k : ℕ). handed_in c k (node h i r)) (next_number n j m at)
    ∙ inner_handed c h i r (n + suc j) (omega (arith, within))
    ∙ left e j (n + suc j) refl lt
    ∙ ap (λ (d : HandedDown). handed_in (handed d p.head) j p.inner) (sym (inner_handed c h i r n (ltb-true n (count i) is)))
hands_by c h i r n p false is e left right j m at lt =
    let past : count i ≤ n = ltb-false n (count i) is in
    ap (λ (k : ℕ). handed_in c k (node h i r)) (next_number n j m at)
    ∙ rest_handed c h i r (n + suc j) (omega (arith, past))
    ∙ right e j (n + suc j - count i) (omega (arith, past)) lt
    ∙ ap (λ (d : HandedDown). handed_in (handed d p.head) j p.inner) (sym (rest_handed c h i r n past))

hands_down : (r : Objects) (c : HandedDown) (n : ℕ) (p : Object) → part_in n r ≡ Some p → HandsDown c r n p
hands_down none c n p e j m at lt = absurd cc
hands_down (node h i r) c zero p e j m at lt =
    let same : object h i ≡ p = some_same e in
    let less : j < count i = omega (arith, lt, ap (λ (x : Object). count x.inner) same) in
    ap (λ (k : ℕ). handed_in c k (node h i r)) (first_number j m at)
    ∙ inner_handed c h i r j less
    ∙ ap (λ (x : Object). handed_in (handed c x.head) j x.inner) same
hands_down (node h i r) c (suc n) p e j m at lt = hands_by c h i r n p (nat_lt n (count i)) refl e (hands_down i (handed c h) n p) (hands_down r c (n - count i) p) j m at lt

-- each object of a row is handed down what the row is
child_handed : (r : Objects) (c : HandedDown) (k : ℕ) (x : Object) → slice_get (listed r) k ≡ Some x → handed_in c (count (first k r)) r ≡ c
child_handed none c k x e = absurd cc
child_handed (node h i r) c zero x e = refl
child_handed (node h i r) c (suc k) x e =
    let n : ℕ = count (first k r) in
    let at : count i + n + 1 ≡ suc (count i + n) = omega arith in
    let past : count i ≤ count i + n = omega arith in
    let back : count i + n - count i ≡ n = omega arith in
    ap (λ (m : ℕ). handed_in c m (node h i r)) at ∙ rest_handed c h i r (count i + n) past ∙ ap (λ (m : ℕ). handed_in c m r) back ∙ child_handed r c k x e

-- the objects in the object of a number, by their own numbers
parts_in : (r : Objects) (n : ℕ) (p : Object) → part_in n r ≡ Some p → (j m : ℕ) → m ≡ n + suc j → j < count p.inner → part_in m r ≡ part_in j p.inner
parts_in r n p is =
    let f : (q : Object) × PartOf r 0 None n q = part_of r 0 None n (omega (arith, part_within r n p is)) in
    subst (λ (q : Object). (j m : ℕ) → m ≡ n + suc j → j < count q.inner → part_in m r ≡ part_in j q.inner) (some_same (sym f.1.is ∙ is)) f.1.inside

-- the number of a child
pub record ChildAt (o p : Object) (n k next : ℕ) (x : Object) : Type 0 where
  pub is : part_at next o ≡ Some x
  pub within : next + parts x ≤ n + parts p
  pub handed_down : (lib : Contracts) → handed_at lib next o ≡ handed (handed_at lib n o) p.head

pub child_at : (o p x : Object) (n k next : ℕ) → part_at n o ≡ Some p → slice_get (listed p.inner) k ≡ Some x → next ≡ n + (count (first k p.inner) + 1) → ChildAt o p n k next x
child_at o p x n k next is child at =
    let below : part_in (count (first k p.inner)) p.inner ≡ Some x = child_part p.inner k x child in
    let inside : count (first k p.inner) + parts x ≤ count p.inner = part_within p.inner (count (first k p.inner)) x below in
    let number : next ≡ n + suc (count (first k p.inner)) = omega (arith, at) in
    let less : count (first k p.inner) < count p.inner = omega (arith, inside) in
    record {
      is = parts_in (row o) n p is (count (first k p.inner)) next number less ∙ below;
      within = omega (arith, at, inside);
      handed_down = λ lib.
          hands_down (row o) (at_top lib) n p is (count (first k p.inner)) next number less
          ∙ child_handed p.inner (handed (handed_at lib n o) p.head) k x child;
    }

-- the next number, where the objects before it are counted
pub more_counted : (r : Objects) (k : ℕ) (x : Object) → slice_get (listed r) k ≡ Some x → count (first (k + 1) r) ≡ count (first k r) + parts x
more_counted none k x e = absurd cc
more_counted (node h i r) zero x e =
    let same : count i ≡ count x.inner = ap (λ (y : Object). count y.inner) (some_same e) in
    omega (arith, same)
more_counted (node h i r) (suc k) x e =
    let at : suc k + 1 ≡ suc (k + 1) = omega arith in
    ap (λ (n : ℕ). count (first n (node h i r))) at ∙ omega (arith, more_counted r k x e)
