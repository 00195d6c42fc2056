-- The children of an object that are nodes, one after another.
use Rattle.std.proofs.Common.{◌≡◌, ℕ, zero, suc, ◌+◌, ◌<◌, ◌≤◌, Bool, true, false, cond, List, [], ◌∷◌, ◌++◌, map, take, Option, Some, None, refl, sym, ap, ap₂, ◌∙◌, subst, arith}
use Rattle.std.specs.Prelude.{filter, slice_get}
use Rattle.std.proofs.lemmas.List.{map-append, take_all}
use Rattle.ob_object.specs.declared.head.Head.{Head}
use Rattle.ob_object.specs.Object.{Object, count, parts, children, listed}
use Rattle.ob_object.specs.WellFormed.{IsWellFormed}
use Rattle.ob_tree.specs.declared.node.NodeId.{NodeId}
use Rattle.ob_tree.specs.declared.spot.Spot.{Spot}
use Rattle.ob_tree.specs.Laid.{spots_of, width, head_at}
use Rattle.ob_tree.specs.Shown.{part_at}
use Rattle.ob_tree.specs.Children.{is_node, AreChildNodes}
use Rattle.ob_tree.proofs.Reading.{length-listed}
use Rattle.ob_tree.proofs.Growing.{first, Grows, Next, grows, grows_for, next_of, read_spot}

filter_last : (f : Object → Bool) (xs : List Object) (x : Object) → filter f (xs ++ x ∷ []) ≡ filter f xs ++ cond (f x) (x ∷ []) []
filter_last f [] x = refl
filter_last f (y ∷ ys) x = go (f y) (filter_last f ys x)
  where
    go : (b : Bool) → filter f (ys ++ x ∷ []) ≡ filter f ys ++ cond (f x) (x ∷ []) [] → cond b (y ∷ filter f (ys ++ x ∷ [])) (filter f (ys ++ x ∷ [])) ≡ cond b (y ∷ filter f ys) (filter f ys) ++ cond (f x) (x ∷ []) []
    go true later = ap (λ l. y ∷ l) later
    go false later = later

take_last : (xs : List Object) (k : ℕ) (x : Object) → slice_get xs k ≡ Some x → take (suc k) xs ≡ take k xs ++ x ∷ []
take_last [] k x e = absurd cc
take_last (y ∷ ys) zero x e = let same : y ≡ x = cc in ap (λ z. z ∷ []) same
take_last (y ∷ ys) (suc k) x e = ap (λ l. y ∷ l) (take_last ys k x e)

append_none : {A : Type 0} (xs : List A) → xs ++ [] ≡ xs
append_none [] = refl
append_none (x ∷ xs) = ap (λ l. x ∷ l) (append_none xs)

-- how far they have been looked through: so many children, and the number of the next
pub record Gathers (o p : Object) (n k : ℕ) (made : List NodeId) (next : ℕ) : Type 0 where
  pub number : next ≡ n + (count (first k p.inner) + 1)
  pub are : map (λ c. part_at c.number o) made ≡ map (λ x. Some x) (filter is_node (take k (children p)))

pub gathering : (o p : Object) (n : ℕ) (made : List NodeId) → made ≡ [] → Gathers o p n 0 made (n + 1)
gathering o p n made e = record { number = omega arith; are = ap (map (λ c. part_at c.number o)) e }

-- the child that is looked at next
pub record Gathered (o p : Object) (n k : ℕ) (made : List NodeId) (next : ℕ) : Type 0 where
  pub x : Object
  pub grows : Grows o next x
  pub less : next < parts o
  pub child : slice_get (children p) k ≡ Some x
  pub so_far : Gathers o p n k made next
  pub counted : next + (count x.inner + 1) ≡ n + (count (first (suc k) p.inner) + 1)

pub gathered : (o : Object) (ss : List Spot) (n k : ℕ) (made : List NodeId) (next : ℕ) (s : Spot) → ss ≡ spots_of 0 None o → IsWellFormed o → n < parts o → slice_get ss n ≡ Some s → k < s.len
    → ((p : Object) → part_at n o ≡ Some p → Gathers o p n k made next) → (p : Object) × (part_at n o ≡ Some p) × Gathered o p n k made next
gathered o ss n k made next s e well lt is below so_far =
    let f = grows o n lt in
    let size = read_spot o f.0 ss n s e f.1 is in
    let here = so_far f.0 f.1.is in
    let g = next_of o f.0 n k next f.1 well here.number (omega (arith, size.0, below)) in
    let less : next < parts o = omega (arith, g.1.within, f.1.within) in (
      f.0,
      f.1.is,
      record {
        x = g.0;
        grows = grows_for o g.0 next less g.1.is;
        less = less;
        child = g.1.child;
        so_far = here;
        counted = omega (arith, here.number, g.1.counted);
      },
    )

-- one child more
pub gathers_on : (o p : Object) (n k : ℕ) (made new : List NodeId) (next behind : ℕ) (s : Gathered o p n k made next) (b : Bool) → b ≡ is_node s.x
    → new ≡ cond b (made ++ record { number = next } ∷ []) made → behind ≡ next + (count s.x.inner + 1) → Gathers o p n (k + 1) new behind
gathers_on o p n k made new next behind s b is e f =
    let more : suc k ≡ k + 1 = omega arith in
    subst (λ (m : ℕ). Gathers o p n m new behind) more (record { number = f ∙ s.counted; are = ap (map (λ c. part_at c.number o)) e ∙ go b is })
  where
    at : NodeId → Option Object
    at c = part_at c.number o

    each : (c : Bool) → map at (cond c (made ++ record { number = next } ∷ []) made) ≡ map (λ x. Some x) (filter is_node (take k (children p)) ++ cond c (s.x ∷ []) [])
    each true =
        map-append at made (record { number = next } ∷ [])
        ∙ ap₂ (λ (l : List (Option Object)) (x : Option Object). l ++ x ∷ []) s.so_far.are s.grows.is
        ∙ sym (map-append (λ x. Some x) (filter is_node (take k (children p))) (s.x ∷ []))
    each false = s.so_far.are ∙ ap (map (λ x. Some x)) (sym (append_none (filter is_node (take k (children p)))))

    go : (c : Bool) → c ≡ is_node s.x → map at (cond c (made ++ record { number = next } ∷ []) made) ≡ map (λ x. Some x) (filter is_node (take (suc k) (children p)))
    go c here =
        each c
        ∙ ap (λ (d : Bool). map (λ (x : Object). Some x) (filter is_node (take k (children p)) ++ cond d (s.x ∷ []) [])) here
        ∙ ap (map (λ x. Some x)) (sym (filter_last is_node (take k (children p)) s.x))
        ∙ ap (λ (l : List Object). map (λ x. Some x) (filter is_node l)) (sym (take_last (children p) k s.x s.child))

-- all are looked through
pub all_gathered : (o p : Object) (n k : ℕ) (made : List NodeId) (next : ℕ) → Gathers o p n k made next → width p.inner ≤ k → map (λ c. part_at c.number o) made ≡ map (λ x. Some x) (filter is_node (children p))
all_gathered o p n k made next g le = g.are ∙ ap (λ (l : List Object). map (λ x. Some x) (filter is_node l)) (take_all k (children p) (omega (arith, le, length-listed p.inner)))
