-- The numbers of children by their names.
use Rattle.std.proofs.Common.{◌≡◌, ℕ, zero, suc, ◌+◌, ◌-◌, ◌<◌, ◌≤◌, Bool, true, false, cond, List, [], Option, Some, None, refl, sym, ap, ◌∙◌, subst, arith}
use Rattle.std.specs.Prelude.{slice_get, option_and_then, nat_lt, String, string_bytes}
use Rattle.std.specs.Ordering.{nat_cmp}
use Rattle.std.specs.Cmp.{unsigned_ties}
use Rattle.std.specs.Cmp.Lexicographic.{slice_cmp}
use Rattle.std.specs.BTreeMap.{BTreeMap, is_at, get, get_by_text}
use Rattle.std.specs.Map.{lookup}
use Rattle.std.proofs.lemmas.Bool.{eqb-true}
use Rattle.std.proofs.lemmas.List.{drop_all}
use Rattle.ob_object.specs.declared.head.Head.{Head}
use Rattle.ob_object.specs.Object.{Objects, none, node, Object, count, parts, listed, in_row, in_row-listed}
use Rattle.ob_object.specs.WellFormed.{has_name, IsWellFormed}
use Rattle.ob_contracts.specs.Inherit.{or_else}
use Rattle.ob_tree.specs.declared.spot.Spot.{Spot}
use Rattle.ob_tree.specs.Laid.{object, spots_of, width, changed_in, changed, head_at}
use Rattle.ob_tree.specs.Shown.{part_in, part_at}
use Rattle.ob_tree.specs.Children.{AreNumbered, named_from, child_at}
use Rattle.ob_tree.proofs.Changing.{count-changed_in}
use Rattle.ob_tree.proofs.Growing.{first, Grows, grows, grows_for, next_of, read_spot}
use Rattle.ob_tree.proofs.Named.{rest, rest_cons}
use Rattle.ob_tree.proofs.Reading.{length-listed}

-- how far the children of an object have been numbered
pub record IsNumbered (p : Object) (n k next : ℕ) (known : List ℕ → Option ℕ) : Type 0 where
  pub number : next ≡ n + (count (first k p.inner) + 1)
  pub left : (name : List ℕ) → or_else (known name) (named_from next name (rest k p.inner)) ≡ named_from (n + 1) name p.inner

pub begun : (p : Object) (n : ℕ) (known : List ℕ → Option ℕ) → ((name : List ℕ) → known name ≡ None) → IsNumbered p n 0 (n + 1) known
begun p n known fresh = record {
  number = omega arith;
  left = λ name. ap (λ (o : Option ℕ). or_else o (named_from (n + 1) name (rest 0 p.inner))) (fresh name) ∙ ap (named_from (n + 1) name) (in_row-listed p.inner);
}

-- before the first nothing is known
pub none_known : {Y : Type 0} (es : List (String Y × ℕ)) → es ≡ [] → (name : List ℕ) → lookup (is_at (λ (k : String Y). slice_cmp nat_cmp name (string_bytes k))) es ≡ None
none_known es empty name = ap (lookup (is_at (λ k. slice_cmp nat_cmp name (string_bytes k)))) empty

-- the child that comes next
pub record Follows (o : Object) (n k next : ℕ) (known : List ℕ → Option ℕ) : Type 0 where
  pub p : Object
  pub x : Object
  pub is : part_at n o ≡ Some p
  pub grows : Grows o next x
  pub less : next < parts o
  pub so_far : IsNumbered p n k next known
  pub row_is : (name : List ℕ) → named_from next name (rest k p.inner) ≡ cond (has_name name x.head.name) (Some next) (named_from (next + (count x.inner + 1)) name (rest (suc k) p.inner))
  pub counted : next + (count x.inner + 1) ≡ n + (count (first (suc k) p.inner) + 1)

pub follows : (o : Object) (ss : List Spot) (n k next : ℕ) (s : Spot) (known : List ℕ → Option ℕ) → ss ≡ spots_of 0 None o → IsWellFormed o → n < parts o → slice_get ss n ≡ Some s → k < s.len
    → ((p : Object) → part_at n o ≡ Some p → IsNumbered p n k next known) → Follows o n k next known
follows o ss n k next s known e well lt at below held =
    let f = grows o n lt in
    let size = read_spot o f.0 ss n s e f.1 at in
    let few : k < width f.0.inner = omega (arith, size.0) in
    let up = held f.0 f.1.is in
    let child = next_of o f.0 n k next f.1 well up.number few in
    let less : next < parts o = omega (arith, child.1.within, f.1.within) in
    record {
      p = f.0;
      x = child.0;
      is = f.1.is;
      grows = grows_for o child.0 next less child.1.is;
      less = less;
      so_far = up;
      row_is = λ name. ap (named_from next name) (rest_cons f.0.inner k child.0 child.1.child);
      counted = omega (arith, up.number, child.1.counted);
    }

either : (a : Option ℕ) (b : Bool) (m : ℕ) (c : Option ℕ) → or_else (or_else a (cond b (Some m) None)) c ≡ or_else a (cond b (Some m) c)
either (Some x) b m c = refl
either None true m c = refl
either None false m c = refl

-- one child more
pub follows_on : (o : Object) (n k next behind : ℕ) (known new : List ℕ → Option ℕ) (h : Head) (s : Follows o n k next known) → head_at next o ≡ Some h → behind ≡ next + (count s.x.inner + 1)
    → ((name : List ℕ) → new name ≡ or_else (known name) (cond (has_name name h.name) (Some next) None)) → (q : Object) → part_at n o ≡ Some q → IsNumbered q n (k + 1) behind new
follows_on o n k next behind known new h s read e put = λ q is.
    let there : part_at n o ≡ Some s.p = s.is in
    let same : s.p ≡ q = cc in
    let told : head_at next o ≡ Some s.x.head = s.grows.head_is in
    let head : h ≡ s.x.head = cc in
    let more : suc k ≡ k + 1 = omega arith in
    subst (λ (x : Object). IsNumbered x n (k + 1) behind new) same
    (subst (λ (j : ℕ). IsNumbered s.p n j behind new) more
    (record {
      number = e ∙ s.counted;
      left = λ name.
          ap (λ (a : Option ℕ). or_else a (named_from behind name (rest (suc k) s.p.inner))) (put name)
          ∙ either (known name) (has_name name h.name) next (named_from behind name (rest (suc k) s.p.inner))
          ∙ ap (λ (x : Head). or_else (known name) (cond (has_name name x.name) (Some next) (named_from behind name (rest (suc k) s.p.inner)))) head
          ∙ ap (λ (m : ℕ). or_else (known name) (cond (has_name name s.x.head.name) (Some next) (named_from m name (rest (suc k) s.p.inner)))) e
          ∙ ap (or_else (known name)) (sym (s.row_is name))
          ∙ s.so_far.left name;
    }))

or_none : (a : Option ℕ) → a ≡ or_else a None
or_none None = refl
or_none (Some x) = refl

-- all are numbered
pub all_follow : (o p : Object) (n k next : ℕ) (known : List ℕ → Option ℕ) → IsNumbered p n k next known → width p.inner ≤ k → part_at n o ≡ Some p → (name : List ℕ) → known name ≡ child_at n name o
all_follow o p n k next known s h is = λ name.
    or_none (known name)
    ∙ ap (λ (l : List Object). or_else (known name) (named_from next name (in_row l))) (sym (drop_all k (listed p.inner) (omega (arith, length-listed p.inner))))
    ∙ s.left name
    ∙ ap (option_and_then (λ (q : Object). named_from (n + 1) name q.inner)) (sym is)

-- those of one object more
pub numbered_more : {Y : Type 0} (o : Object) (old new : BTreeMap ℕ (BTreeMap (String Y) ℕ)) (n : ℕ) (numbers : BTreeMap (String Y) ℕ)
    → ((m : ℕ) → get nat_cmp new m ≡ cond (is_at (nat_cmp n) m) (Some numbers) (get nat_cmp old m)) → ((name : List ℕ) → get_by_text numbers name ≡ child_at n name o) → AreNumbered o old → AreNumbered o new
numbered_more {Y} o old new n numbers up here held = λ m ms is. go m ms (is_at (nat_cmp n) m) refl (sym (up m) ∙ is)
  where
    go : (m : ℕ) (ms : BTreeMap (String Y) ℕ) (b : Bool) → is_at (nat_cmp n) m ≡ b → cond b (Some numbers) (get nat_cmp old m) ≡ Some ms → (name : List ℕ) → get_by_text ms name ≡ child_at m name o
    go m ms false off is = held m ms is
    go m ms true on is = λ name.
        let at : n ≡ m = eqb-true n m (unsigned_ties n m ∙ on) in
        let same : numbers ≡ ms = cc in
        ap (λ x. get_by_text x name) (sym same) ∙ here name ∙ ap (λ (j : ℕ). child_at j name o) at

pub numbered_none : {Y : Type 0} (o : Object) (all : BTreeMap ℕ (BTreeMap (String Y) ℕ)) → all.entries ≡ [] → AreNumbered o all
numbered_none o all e = λ n numbers is. let gone : get nat_cmp all n ≡ None = ap (lookup (is_at (nat_cmp n))) e in absurd cc

-- an object that says something else of itself keeps the numbers of all, if it keeps its name
module _ (f : Head → Head) (keeps : (h : Head) → (f h).name ≡ h.name) where
  named_by : (name : List ℕ) (at m : ℕ) (h : Head) (i r left right : Objects) (b : Bool) → count left ≡ count i → named_from (at + (count i + 1)) name right ≡ named_from (at + (count i + 1)) name r
      → named_from at name (cond b (node h left r) (node h i right)) ≡ named_from at name (node h i r)
  named_by name at m h i r left right true n e = ap (λ (c : ℕ). cond (has_name name h.name) (Some at) (named_from (at + (c + 1)) name r)) n
  named_by name at m h i r left right false n e = ap (cond (has_name name h.name) (Some at)) e

  named_changed : (r : Objects) (k at : ℕ) (name : List ℕ) → named_from at name (changed_in f k r) ≡ named_from at name r
  named_changed none k at name = refl
  named_changed (node h i r) zero at name = ap (λ (x : Option (List ℕ)). cond (has_name name x) (Some at) (named_from (at + (count i + 1)) name r)) (keeps h)
  named_changed (node h i r) (suc k) at name =
      named_by name at k h i r (changed_in f k i) (changed_in f (k - count i) r) (nat_lt k (count i)) (count-changed_in f i k) (named_changed r (k - count i) (at + (count i + 1)) name)

  abbrev child_in : List ℕ → ℕ → ℕ → Objects → Option ℕ
  child_in name m n r = option_and_then (λ (p : Object). named_from m name p.inner) (part_in n r)

  first_by : (name : List ℕ) (m : ℕ) (h : Head) (i r left right : Objects) (b : Bool) → named_from m name left ≡ named_from m name i
      → child_in name m zero (cond b (node h left r) (node h i right)) ≡ named_from m name i
  first_by name m h i r left right true e = e
  first_by name m h i r left right false e = refl

  later_by : (name : List ℕ) (m n : ℕ) (h : Head) (i r left right : Objects) (b : Bool) → count left ≡ count i → ((j : ℕ) → child_in name m j left ≡ child_in name m j i) → ((j : ℕ) → child_in name m j right ≡ child_in name m j r)
      → child_in name m (suc n) (cond b (node h left r) (node h i right)) ≡ child_in name m (suc n) (node h i r)
  later_by name m n h i r left right true c e g =
      ap (λ (x : ℕ). option_and_then (λ (p : Object). named_from m name p.inner) (cond (nat_lt n x) (part_in n left) (part_in (n - x) r))) c
      ∙ pick (nat_lt n (count i)) (part_in n left) (part_in n i) (part_in (n - count i) r) (part_in (n - count i) r) (e n) refl
    where
      pick : (b : Bool) (x y z w : Option Object) → option_and_then (λ (p : Object). named_from m name p.inner) x ≡ option_and_then (λ (p : Object). named_from m name p.inner) y
          → option_and_then (λ (p : Object). named_from m name p.inner) z ≡ option_and_then (λ (p : Object). named_from m name p.inner) w
          → option_and_then (λ (p : Object). named_from m name p.inner) (cond b x z) ≡ option_and_then (λ (p : Object). named_from m name p.inner) (cond b y w)
      pick true x y z w s t = s
      pick false x y z w s t = t
  later_by name m n h i r left right false c e g = pick (nat_lt n (count i)) (part_in n i) (part_in (n - count i) right) (part_in (n - count i) r) (g (n - count i))
    where
      pick : (b : Bool) (x z w : Option Object) → option_and_then (λ (p : Object). named_from m name p.inner) z ≡ option_and_then (λ (p : Object). named_from m name p.inner) w
          → option_and_then (λ (p : Object). named_from m name p.inner) (cond b x z) ≡ option_and_then (λ (p : Object). named_from m name p.inner) (cond b x w)
      pick true x z w t = refl
      pick false x z w t = t

  child_in_changed : (r : Objects) (name : List ℕ) (m n k : ℕ) → child_in name m n (changed_in f k r) ≡ child_in name m n r
  child_in_changed none name m n k = refl
  child_in_changed (node h i r) name m zero zero = refl
  child_in_changed (node h i r) name m (suc n) zero = refl
  child_in_changed (node h i r) name m zero (suc k) = first_by name m h i r (changed_in f k i) (changed_in f (k - count i) r) (nat_lt k (count i)) (named_changed i k m name)
  child_in_changed (node h i r) name m (suc n) (suc k) =
      later_by name m n h i r (changed_in f k i) (changed_in f (k - count i) r) (nat_lt k (count i)) (count-changed_in f i k) (λ j. child_in_changed i name m j k) (λ j. child_in_changed r name m j (k - count i))

  pub child_at-changed : (o : Object) (k n : ℕ) (name : List ℕ) → child_at n name (changed f k o) ≡ child_at n name o
  child_at-changed o zero zero name = refl
  child_at-changed o zero (suc n) name = refl
  child_at-changed o (suc k) zero name = named_changed o.inner k (0 + 1) name
  child_at-changed o (suc k) (suc n) name =
      later_by name (suc n + 1) n o.head o.inner none (changed_in f k o.inner) none true (count-changed_in f o.inner k) (λ j. child_in_changed o.inner name (suc n + 1) j k) (λ j. refl)

  pub numbered_changed : {Y : Type 0} (o : Object) (k : ℕ) (all : BTreeMap ℕ (BTreeMap (String Y) ℕ)) → AreNumbered o all → AreNumbered (changed f k o) all
  numbered_changed o k all held = λ n numbers is name. held n numbers is name ∙ sym (child_at-changed o k n name)
