-- No stamp is of a step to come.
use Rattle.std.proofs.Common.{ℕ, ◌≡◌, zero, suc, ◌+◌, ◌≤◌, Bool, true, false, cond, List, [], ◌∷◌, map, None, sym, subst, arith}
use Rattle.std.specs.Prelude.{nat_lt, slice_get, unwrap_or, replicate}
use Rattle.ob_object.specs.Object.{Object, parts}
use Rattle.ob_tree.specs.declared.spot.Spot.{Spot}
use Rattle.ob_tree.specs.Laid.{spots_of}
use Rattle.ob_tree.specs.LastTouch.{Stamping, Begins, Touches, Renumbers, done, all_done}
use Rattle.ob_tree.specs.Stamps.{is_round, stamped, touched}
use Rattle.ob_tree.specs.Trees.{Stamped}
use Rattle.ob_watch.specs.Flags.{anew}
use Rattle.ob_watch.specs.Marks.{AreStampsPast}
use Rattle.ob_site_watches.specs.Stamps.{built, StampsArePast}

copied : (m k a : ℕ) → unwrap_or (slice_get (replicate m a) k) 0 ≤ a
copied zero k a = omega arith
copied (suc m) zero a = omega arith
copied (suc m) (suc k) a = copied m k a

chosen : (b : Bool) (x now : ℕ) → x ≤ now → cond b now x ≤ now
chosen true x now past = omega arith
chosen false x now past = past

one_stamped : (n now a : ℕ) (ss : List Spot) (xs : List ℕ) (k : ℕ) → unwrap_or (slice_get xs k) 0 ≤ now → unwrap_or (slice_get (stamped n now a ss xs) k) 0 ≤ now
one_stamped n now a [] xs k past = omega arith
one_stamped n now a (s ∷ ss) [] k past = past
one_stamped n now a (s ∷ ss) (x ∷ xs) zero past = chosen (is_round a s n) x now past
one_stamped n now a (s ∷ ss) (x ∷ xs) (suc k) past = one_stamped n now (a + 1) ss xs k past

one_done : (c : Stamping) (t : Stamped) → AreStampsPast t → AreStampsPast (done c t)
one_done Begins t past k = let before = past k in omega (arith, before)
one_done (Touches n) t past k = go (nat_lt k (parts t.root)) (past k)
  where
    go : (b : Bool) → cond b (unwrap_or (slice_get t.stamps k) 0) 0 ≤ t.steps → cond b (unwrap_or (slice_get (touched n t.steps t.root t.stamps) k) 0) 0 ≤ t.steps
    go true before = one_stamped n t.steps 0 (spots_of 0 None t.root) t.stamps k before
    go false before = before
one_done Renumbers t past k = go (nat_lt k (parts t.root))
  where
    go : (b : Bool) → cond b (unwrap_or (slice_get (replicate (parts t.root) 1) k) 0) 0 ≤ 1
    go true = copied (parts t.root) k 1
    go false = omega arith

pub done_past : (cs : List Stamping) (t : Stamped) → AreStampsPast t → AreStampsPast (all_done cs t)
done_past [] t past = past
done_past (c ∷ cs) t past = done_past cs (done c t) (one_done c t past)

pub anew_past : (t : Stamped) → AreStampsPast (anew t)
anew_past t k = go (nat_lt k (parts t.root))
  where
    go : (b : Bool) → cond b (unwrap_or (slice_get (replicate (parts t.root) 1) k) 0) 0 ≤ 1
    go true = copied (parts t.root) k 1
    go false = omega arith

begun : (o : Object) → AreStampsPast (built o)
begun o k = go (nat_lt k (parts o))
  where
    go : (b : Bool) → cond b (unwrap_or (slice_get (replicate (parts o) 0) k) 0) 0 ≤ 0
    go true = copied (parts o) k 0
    go false = omega arith

others_past : (o : Object) (t : Stamped) → parts o ≡ parts t.root → AreStampsPast t → AreStampsPast (record t { root = o })
others_past o t same past k =
    subst (λ (m : ℕ). cond (nat_lt k m) (unwrap_or (slice_get t.stamps k) 0) 0 ≤ t.steps) (sym same) (past k)

pub stamps_are_past : StampsArePast
stamps_are_past = record {
  begins = λ o. begun o;
  steps = λ ns t past. done_past (map Touches ns) (done Begins t) (one_done Begins t past);
  whatever = λ cs t past. done_past cs t past;
  anew = λ t. anew_past t;
  others = λ o t same past. others_past o t same past;
}
