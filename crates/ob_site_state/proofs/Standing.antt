-- What stands at the places of elements that pass a test.
use Rattle.std.proofs.Common.{◌≡◌, ℕ, zero, suc, ◌+◌, ◌<◌, Bool, true, false, cond, List, [], ◌∷◌, map, length, take, get_or, Some, refl, sym, ap, ◌∙◌, subst, arith, add-one}
use Rattle.std.specs.Prelude.{slice_get}
use Rattle.std.proofs.lemmas.List.{get_or-map, length-map, take-map}
use Rattle.ob_site_state.specs.Roles.{all_places}

-- each of some places is below one
abbrev pub AreBelow : ℕ → List ℕ → Type 0
AreBelow q [] = Unit {0}
AreBelow q (p ∷ ps) = (p < q) × AreBelow q ps

-- one of the places: it is in the list, what stands there passes, and those before it are below it
pub record Stands {A : Type 0} (f : A → Bool) (xs : List A) (ps : List ℕ) (n : ℕ) (p : ℕ) : Type 0 where
  pub within : p < length xs
  pub passes : (x : A) → slice_get xs p ≡ Some x → f x ≡ true
  pub ascends : AreBelow p (take n ps)

abbrev one_on : List ℕ → List ℕ
one_on ps = map (λ k. k + 1) ps

below_on : (q : ℕ) (ps : List ℕ) → AreBelow q ps → AreBelow (q + 1) (one_on ps)
below_on q [] h = tt
below_on q (p ∷ ps) h = (omega (arith, h.0), below_on q ps h.1)

-- a place further on, behind one more element
stands_on : {A : Type 0} (f : A → Bool) (x : A) (xs : List A) (ps : List ℕ) (n d : ℕ) → n < length ps → Stands f xs ps n (get_or ps n d) → Stands f (x ∷ xs) (one_on ps) n (get_or (one_on ps) n d)
stands_on f x xs ps n d lt s =
    let p : ℕ = get_or ps n d in
    let is : get_or (one_on ps) n d ≡ p + 1 = get_or-map (λ k. k + 1) ps n d d lt in
    subst (Stands f (x ∷ xs) (one_on ps) n) (sym is) (record {
      within = omega (arith, s.within);
      passes = λ y e. s.passes y (ap (slice_get (x ∷ xs)) (sym (add-one p)) ∙ e);
      ascends = subst (AreBelow (p + 1)) (sym (take-map (λ k. k + 1) n ps)) (below_on p (take n ps) s.ascends);
    })

-- and where that element passes too
stands_behind : {A : Type 0} (f : A → Bool) (xs : List A) (ps : List ℕ) (n p : ℕ) → 0 < p → Stands f xs ps n p → Stands f xs (0 ∷ ps) (suc n) p
stands_behind f xs ps n p lt s = record {
  within = s.within;
  passes = s.passes;
  ascends = (lt, s.ascends);
}

-- where the first element is looked at too
stands_first : {A : Type 0} (f : A → Bool) (x : A) (xs : List A) (ps : List ℕ) (d : ℕ) → ((n : ℕ) → n < length ps → Stands f xs ps n (get_or ps n d)) → (b : Bool) → f x ≡ b → (n : ℕ)
    → n < length (cond b (0 ∷ one_on ps) (one_on ps)) → Stands f (x ∷ xs) (cond b (0 ∷ one_on ps) (one_on ps)) n (get_or (cond b (0 ∷ one_on ps) (one_on ps)) n d)
stands_first f x xs ps d each true is zero lt = record {
  within = omega arith;
  passes = λ y e. let same : x ≡ y = cc in ap f (sym same) ∙ is;
  ascends = tt;
}
stands_first f x xs ps d each true is (suc n) lt =
    let below : n < length ps = omega (arith, length-map ps (λ k. k + 1)) in
    let further : get_or (one_on ps) n d ≡ get_or ps n d + 1 = get_or-map (λ k. k + 1) ps n d d below in
    stands_behind f (x ∷ xs) (one_on ps) n (get_or (one_on ps) n d) (omega (arith, further)) (stands_on f x xs ps n d below (each n below))
stands_first f x xs ps d each false is n lt =
    let below : n < length ps = omega (arith, length-map ps (λ k. k + 1)) in
    stands_on f x xs ps n d below (each n below)

pub stands : {A : Type 0} (f : A → Bool) (xs : List A) (n d : ℕ) → n < length (all_places f xs) → Stands f xs (all_places f xs) n (get_or (all_places f xs) n d)
stands f [] n d lt = absurd (omega arith)
stands f (x ∷ xs) n d lt = stands_first f x xs (all_places f xs) d (λ m h. stands f xs m d h) (f x) refl n lt
