-- What the stamps of a tree are after many touches.
use Rattle.std.specs.Prelude.{◌≡◌, ℕ, ◌+◌, ◌≤◌, ◌<◌, cond, ◌&&◌, nat_le, nat_lt, List, [], ◌∷◌, ◌++◌, length, map, replicate, Some, option_map, slice_get}
use Rattle.std.specs.List.{list_any}
use Rattle.ob_object.specs.Object.{Object, parts}
use Rattle.ob_tree.specs.Shown.{part_at}
use Rattle.ob_tree.specs.Stamps.{touched}
use Rattle.ob_tree.specs.Trees.{Stamped}

-- what may be done to the stamps of a tree: a step begins, the object of a number is touched, or the steps are counted anew
pub data Stamping : Type 0 where
  Begins : Stamping
  Touches : (n : ℕ) → Stamping
  Renumbers : Stamping

abbrev pub done : Stamping → Stamped → Stamped
done Begins t = record t { steps = t.steps + 1 }
done (Touches n) t = record t { stamps = touched n t.steps t.root t.stamps }
done Renumbers t = record t { stamps = replicate (parts t.root) 1; steps = 1 }

-- after all of these, in order
abbrev pub all_done : List Stamping → Stamped → Stamped
all_done [] t = t
all_done (c ∷ cs) t = all_done cs (done c t)

-- none of these touches an object whose number is from the first one on and below the second, and none counts anew
abbrev pub NoneTouches : ℕ → ℕ → List Stamping → Type 0
NoneTouches first end [] = Unit {0}
NoneTouches first end (Begins ∷ cs) = NoneTouches first end cs
NoneTouches first end (Touches n ∷ cs) = (first ≤ n → n < end → ⊥) × NoneTouches first end cs
NoneTouches first end (Renumbers ∷ cs) = ⊥

-- The stamp of an object is the number of steps at the last touch of it or of one in it; as before where there is none; and 1
-- where the steps were counted anew later. So it is that of a step which touches several.
pub record LastTouchStamps (t : Stamped) (k : ℕ) (x : Object) : Type 0 where
  pub without : (cs : List Stamping) → NoneTouches k (k + parts x) cs
      → slice_get (all_done cs t).stamps k ≡ slice_get t.stamps k
  pub with_one : (before behind : List Stamping) (n : ℕ) → k ≤ n → n < k + parts x → NoneTouches k (k + parts x) behind
      → slice_get (all_done (before ++ Touches n ∷ behind) t).stamps k ≡ Some (all_done before t).steps
  pub many : (ns : List ℕ) → slice_get (all_done (map Touches ns) t).stamps k
      ≡ option_map (λ old. cond (list_any (λ n. nat_le k n && nat_lt n (k + parts x)) ns) t.steps old) (slice_get t.stamps k)
  pub anew : (before behind : List Stamping) → NoneTouches k (k + parts x) behind
      → slice_get (all_done (before ++ Renumbers ∷ behind) t).stamps k ≡ Some 1

-- so for each object of each tree
abbrev pub LastTouchesStamp : Type 0
LastTouchesStamp = (t : Stamped) (k : ℕ) (x : Object) → length t.stamps ≡ parts t.root → k < parts t.root
    → part_at k t.root ≡ Some x → LastTouchStamps t k x
