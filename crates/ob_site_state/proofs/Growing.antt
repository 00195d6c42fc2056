-- How many histories of a source keep all their records.
use Rattle.std.proofs.Common.{◌≡◌, ◌≤◌, ◌<◌, ℕ, zero, suc, ◌+◌, Bool, true, false, ◌&&◌, cond, List, [], ◌∷◌, length, map, take, Option, Some, refl, sym, ap, ap₂, ◌∙◌, arith, add-one}
use Rattle.std.specs.Prelude.{slice_get, slice_index_or, is_none, unwrap_or, String}
use Rattle.std.specs.Str.{bytes_eq}
use Rattle.std.specs.BTreeMap.{BTreeMap, get_by_text}
use Rattle.std.proofs.lemmas.List.{length-map}
use Rattle.std.proofs.lemmas.Slice.Eq.{bytes_eq-Decides}
use Rattle.ob_site_rules.specs.Build.{Path}
use Rattle.ob_site_rules.specs.State.{Log}
use Rattle.ob_site_state.specs.Roles.{is_of}
use Rattle.ob_site_state.specs.Tallies.{capacities_of, count_at, growing_in}

-- one more is counted for a path
pub one_more_at : {X : Type 0} (path p : Path) (n : ℕ) (old new : BTreeMap (String X) ℕ) → n ≡ count_at old path → get_by_text new p ≡ cond (bytes_eq path p) (Some (n + 1)) (get_by_text old p)
    → count_at new p ≡ count_at old p + cond (bytes_eq path p) 1 0
one_more_at path p n old new is put = ap (λ (o : Option ℕ). unwrap_or o 0) put ∙ go (bytes_eq path p) refl
  where
    go : (b : Bool) → bytes_eq path p ≡ b → unwrap_or (cond b (Some (n + 1)) (get_by_text old p)) 0 ≡ count_at old p + cond b 1 0
    go true same = ap (λ (m : ℕ). m + 1) (is ∙ ap (count_at old) ((bytes_eq-Decides path p).0 same))
    go false same = omega arith

-- one history more
pub growing_next : (p : Path) (hs : List (Path × Option Path)) (cs : List (Option ℕ)) (i : ℕ) (h : Path × Option Path) (c : Option ℕ) → slice_get hs i ≡ Some h → slice_get cs i ≡ Some c
    → growing_in p (take (i + 1) hs) (take (i + 1) cs) ≡ growing_in p (take i hs) (take i cs) + cond (is_of p h && is_none c) 1 0
growing_next p [] cs i h c here there = absurd cc
growing_next p (x ∷ hs) [] i h c here there = absurd cc
growing_next p (x ∷ hs) (d ∷ cs) zero h c here there =
    let first : x ≡ h = cc in
    let second : d ≡ c = cc in
    let same : cond {A = ℕ} (is_of p x && is_none d) 1 0 ≡ cond (is_of p h && is_none c) 1 0 = ap₂ (λ (y : Path × Option Path) (e : Option ℕ). cond {A = ℕ} (is_of p y && is_none e) 1 0) first second in
    omega (arith, same)
growing_next p (x ∷ hs) (d ∷ cs) (suc i) h c here there =
    let first : ℕ = cond (is_of p x && is_none d) 1 0 in
    let on : growing_in p (take (suc i + 1) (x ∷ hs)) (take (suc i + 1) (d ∷ cs)) ≡ first + growing_in p (take (i + 1) hs) (take (i + 1) cs) =
    ap (λ (k : ℕ). growing_in p (take k (x ∷ hs)) (take k (d ∷ cs))) (add-one (suc i)) ∙ ap (λ (k : ℕ). first + growing_in p (take k hs) (take k cs)) (sym (add-one i)) in
    omega (arith, on, growing_next p hs cs i h c here there)

few_if : (b : Bool) → cond {A = ℕ} b 1 0 ≤ 1
few_if true = omega arith
few_if false = omega arith

-- they are histories
pub growing_within : (p : Path) (hs : List (Path × Option Path)) (cs : List (Option ℕ)) → growing_in p hs cs ≤ length hs
growing_within p [] cs = omega arith
growing_within p (h ∷ hs) [] = omega arith
growing_within p (h ∷ hs) (c ∷ cs) = omega (arith, growing_within p hs cs, few_if (is_of p h && is_none c))

-- histories stand beside the capacities of their logs
pub beside_capacities : (hs : List (Path × Option Path)) (ls : List (Path × Log)) (cs : List (Option ℕ)) → map (λ l. l.0) ls ≡ map (λ h. h.0) hs → capacities_of ls ≡ cs → length hs ≡ length cs
beside_capacities hs ls cs keys caps =
    omega (
      arith,
      length-map hs (λ h. h.0),
      length-map ls (λ l. l.0),
      length-map ls (λ l. l.1.capacity),
      ap (λ (ps : List Path). length ps) keys,
      ap (λ (ds : List (Option ℕ)). length ds) caps,
    )

-- what stands at a place
pub there_at : {A : Type 0} (xs : List A) (i : ℕ) (d : A) → i < length xs → slice_get xs i ≡ Some (slice_index_or xs i d)
there_at [] i d lt = absurd (omega (arith, lt))
there_at (x ∷ xs) zero d lt = refl
there_at (x ∷ xs) (suc i) d lt = there_at xs i d (omega (arith, lt))
