-- The child of a name, looked for one by one.
use Rattle.std.proofs.Common.{◌≡◌, ℕ, zero, suc, ◌+◌, ◌-◌, ◌<◌, ◌≤◌, Bool, true, false, cond, List, drop, Option, Some, None, refl, sym, ap, ◌∙◌, subst, arith}
use Rattle.std.specs.Prelude.{slice_get, option_and_then, nat_le, nat_lt, ◌&&◌}
use Rattle.std.proofs.lemmas.Bool.{lt-ltb, le-ltb, le-leb, lt-leb}
use Rattle.std.proofs.lemmas.List.{drop_all}
use Rattle.ob_values.proofs.Bools.{and_false}
use Rattle.ob_object.specs.Object.{Objects, none, node, Object, count, parts, listed, in_row, in_row-listed}
use Rattle.ob_object.specs.WellFormed.{has_name, IsWellFormed}
use Rattle.ob_tree.specs.declared.spot.Spot.{Spot}
use Rattle.ob_tree.specs.Laid.{object, spots_of, width}
use Rattle.ob_tree.specs.Shown.{part_at}
use Rattle.ob_tree.specs.Children.{named_from, child_at, place_at}
use Rattle.ob_tree.proofs.Reading.{length-listed}
use Rattle.ob_tree.proofs.Growing.{first, Grows, grows, grows_for, next_of, read_spot}

-- the objects of a row from a place on
abbrev pub rest : ℕ → Objects → Objects
rest k r = in_row (drop k (listed r))

-- how far the search has come
pub record Seeks (p : Object) (n k : ℕ) (name : List ℕ) (next : ℕ) : Type 0 where
  pub number : next ≡ n + (count (first k p.inner) + 1)
  pub left : named_from next name (rest k p.inner) ≡ named_from (n + 1) name p.inner

pub seeking : (p : Object) (n : ℕ) (name : List ℕ) → Seeks p n 0 name (n + 1)
seeking p n name = record { number = omega arith; left = ap (named_from (n + 1) name) (in_row-listed p.inner) }

pub rest_cons : (r : Objects) (k : ℕ) (x : Object) → slice_get (listed r) k ≡ Some x → rest k r ≡ node x.head x.inner (rest (suc k) r)
rest_cons none k x e = absurd cc
rest_cons (node h i r) zero x e = let same : object h i ≡ x = cc in ap (λ (y : Object). node y.head y.inner (in_row (listed r))) same
rest_cons (node h i r) (suc k) x e = rest_cons r k x e

-- One step of the search: the object that is looked at, and what is left if it has another name.
pub record Sought (o p : Object) (n k : ℕ) (name : List ℕ) (next : ℕ) : Type 0 where
  pub x : Object
  pub grows : Grows o next x
  pub less : next < parts o
  pub here : named_from (n + 1) name p.inner ≡ cond (has_name name x.head.name) (Some next) (named_from (next + (count x.inner + 1)) name (rest (suc k) p.inner))
  pub counted : next + (count x.inner + 1) ≡ n + (count (first (suc k) p.inner) + 1)

pub sought : (o p : Object) (n k : ℕ) (name : List ℕ) (next : ℕ) → Grows o n p → IsWellFormed o → Seeks p n k name next → k < width p.inner → Sought o p n k name next
sought o p n k name next g w s lt =
    let f = next_of o p n k next g w s.number lt in
    let less : next < parts o = omega (arith, f.1.within, g.within) in
    record {
      x = f.0;
      grows = grows_for o f.0 next less f.1.is;
      less = less;
      here = sym s.left ∙ ap (named_from next name) (rest_cons p.inner k f.0 f.1.child);
      counted = omega (arith, s.number, f.1.counted);
    }

-- one step of the search, at the spots and the number of children that were read
pub sought_at : (o : Object) (ss : List Spot) (n k : ℕ) (name : List ℕ) (next : ℕ) (s : Spot) → ss ≡ spots_of 0 None o → IsWellFormed o → n < parts o → slice_get ss n ≡ Some s → k < s.len
    → ((p : Object) → part_at n o ≡ Some p → Seeks p n k name next) → (p : Object) × (part_at n o ≡ Some p) × Sought o p n k name next
sought_at o ss n k name next s e well lt is below so_far =
    let f = grows o n lt in
    let size = read_spot o f.0 ss n s e f.1 is in
    (f.0, f.1.is, sought o f.0 n k name next f.1 well (so_far f.0 f.1.is) (omega (arith, size.0)))

pub goes_on : (o p : Object) (n k : ℕ) (name : List ℕ) (next behind : ℕ) (s : Sought o p n k name next) → has_name name s.x.head.name ≡ false → behind ≡ next + (count s.x.inner + 1) → Seeks p n (k + 1) name behind
goes_on o p n k name next behind s not e =
    let more : suc k ≡ k + 1 = omega arith in
    subst (λ (m : ℕ). Seeks p n m name behind) more
    (record {
      number = e ∙ s.counted;
      left = ap (λ (m : ℕ). named_from m name (rest (suc k) p.inner)) e
          ∙ ap (λ (b : Bool). cond b (Some next) (named_from (next + (count s.x.inner + 1)) name (rest (suc k) p.inner))) (sym not) ∙ sym s.here;
    })

pub is_here : (o p : Object) (n k : ℕ) (name : List ℕ) (next : ℕ) (s : Sought o p n k name next) → has_name name s.x.head.name ≡ true → part_at n o ≡ Some p → Some next ≡ child_at n name o
is_here o p n k name next s yes_named is =
    ap (λ (b : Bool). cond b (Some next) (named_from (next + (count s.x.inner + 1)) name (rest (suc k) p.inner))) (sym yes_named)
    ∙ sym s.here ∙ ap (option_and_then (λ (q : Object). named_from (n + 1) name q.inner)) (sym is)

pub is_nowhere : (o p : Object) (n k : ℕ) (name : List ℕ) (next : ℕ) → Seeks p n k name next → width p.inner ≤ k → part_at n o ≡ Some p → None ≡ child_at n name o
is_nowhere o p n k name next s h is =
    ap (λ (l : List Object). named_from next name (in_row l)) (sym (drop_all k (listed p.inner) (omega (arith, length-listed p.inner))))
    ∙ s.left ∙ ap (option_and_then (λ (q : Object). named_from (n + 1) name q.inner)) (sym is)

-- The place of an object among those of another.
abbrev place_in : Bool → Bool → ℕ → ℕ → Option ℕ
place_in a b n inside = cond (a && b) (cond (nat_lt (n - inside) 4294967296) (Some (n - inside)) None) None

place_from : (o p : Object) (n inside : ℕ) (a b : Bool) → Grows o inside p → nat_le inside n ≡ a → nat_lt n (inside + parts p) ≡ b → place_at n inside o ≡ place_in a b n inside
place_from o p n inside a b g e f =
    ap (option_and_then (λ (q : Object). cond (nat_le inside n && nat_lt n (inside + parts q)) (cond (nat_lt (n - inside) 4294967296) (Some (n - inside)) None) None)) g.is
    ∙ ap (λ (x : Bool). place_in x (nat_lt n (inside + parts p)) n inside) e
    ∙ ap (λ (x : Bool). place_in a x n inside) f

pub place_before : (o : Object) (n inside : ℕ) → inside < parts o → n < inside → None ≡ place_at n inside o
place_before o n inside lt h =
    let f = grows o inside lt in sym (place_from o f.0 n inside false (nat_lt n (inside + parts f.0)) f.1 (lt-leb inside n h) refl)

pub place_behind : (o : Object) (ss : List Spot) (s : Spot) (n inside : ℕ) → ss ≡ spots_of 0 None o → slice_get ss inside ≡ Some s → inside < parts o → s.end ≤ n → None ≡ place_at n inside o
place_behind o ss s n inside e is lt h =
    let f = grows o inside lt in
    let size = read_spot o f.0 ss inside s e f.1 is in
    sym (place_from o f.0 n inside (nat_le inside n) false f.1 refl (le-ltb n (inside + parts f.0) (omega (arith, size.1)))
    ∙ ap (λ (b : Bool). cond b (cond (nat_lt (n - inside) 4294967296) (Some (n - inside)) None) None) (and_false (nat_le inside n)))

pub place_within : (o : Object) (ss : List Spot) (s : Spot) (n inside : ℕ) → ss ≡ spots_of 0 None o → slice_get ss inside ≡ Some s → inside < parts o → inside ≤ n → n < s.end
    → cond (nat_lt (n - inside) 4294967296) (Some (n - inside)) None ≡ place_at n inside o
place_within o ss s n inside e is lt le h =
    let f = grows o inside lt in
    let size = read_spot o f.0 ss inside s e f.1 is in
    sym (place_from o f.0 n inside true true f.1 (le-leb inside n le) (lt-ltb n (inside + parts f.0) (omega (arith, size.1))))

-- The number of a child is that of an object.
named_by : (b : Bool) (at m c d : ℕ) (q : Option ℕ) → (q ≡ Some m → m < at + (c + 1) + d) → cond b (Some at) q ≡ Some m → m < at + (c + d + 1)
named_by true at m c d q behind e = let here : at ≡ m = cc in omega arith
named_by false at m c d q behind e = omega (arith, behind e)

named_within : (r : Objects) (at : ℕ) (name : List ℕ) (m : ℕ) → named_from at name r ≡ Some m → m < at + count r
named_within none at name m e = absurd cc
named_within (node h inner rest) at name m e =
    named_by (has_name name h.name) at m (count inner) (count rest) (named_from (at + (count inner + 1)) name rest) (named_within rest (at + (count inner + 1)) name m) e

pub child_within : (o : Object) (n : ℕ) (name : List ℕ) (m : ℕ) → n < parts o → child_at n name o ≡ Some m → m < parts o
child_within o n name m lt e =
    let f = grows o n lt in
    let there : named_from (n + 1) name f.0.inner ≡ Some m = ap (option_and_then (λ (q : Object). named_from (n + 1) name q.inner)) (sym f.1.is) ∙ e in
    omega (arith, named_within f.0.inner (n + 1) name m there, f.1.within)
