-- The watch that was made last is taken out again.
use Rattle.std.proofs.Common.{◌≡◌, ℕ, ◌+◌, ◌-◌, ◌<◌, Bool, true, false, cond, List, [], ◌∷◌, ◌++◌, refl, sym, ap, ap₂, subst, ◌∙◌, arith}
use Rattle.std.specs.Prelude.{Option, Some, None, nat_eq, is_some}
use Rattle.std.specs.List.{AllByRecursion, IsDistinct}
use Rattle.std.specs.Map.{keys_of, remove_entry}
use Rattle.std.specs.Map as map
use Rattle.std.proofs.lemmas.Bool.Decides.{Decides-eqb}
use Rattle.std.proofs.lemmas.Map.Keys.{IsDistinct-head, IsDistinct-tail}
use Rattle.ob_watch.specs.Held.{AreBelow, AreNumbered}
use Rattle.ob_watch.specs.Tables.{Leased, Table, new_watch, with_new}

pub false_true : false ≡ true → ⊥
false_true e = absurd cc

pub none_of : {A : Type 0} (o p : Option A) → o ≡ p → is_some o ≡ false → p ≡ None
none_of None p same none = sym same
none_of (Some x) p same none = absurd (false_true (sym none))

module _ {A : Type 0} where
  -- numbers below one, of which none is the last below it
  below_less : (next n : ℕ) (es : List (ℕ × A)) → n ≡ next - 1 → AllByRecursion (λ k. nat_eq n k ≡ false) (keys_of es) → AreBelow next es → AreBelow n es
  below_less next n [] is others below = tt
  below_less next n (e ∷ es) is others below = (less, below_less next n es is others.1 below.1)
    where
      differs : n ≡ e.0 → ⊥
      differs same = false_true (sym others.0 ∙ (Decides-eqb n e.0).1 same)

      less : e.0 < n
      less =
          let under = below.0 in
          omega (arith, under, is, differs)

  below_unmade : (next n : ℕ) (es : List (ℕ × A)) → n ≡ next - 1 → IsDistinct nat_eq (keys_of es) → AreBelow next es → AreBelow n (remove_entry (nat_eq n) es)
  below_unmade next n [] is distinct below = tt
  below_unmade next n (e ∷ es) is distinct below = go (nat_eq n e.0) refl (below_unmade next n es is (IsDistinct-tail nat_eq e.0 (keys_of es) distinct) below.1)
    where
      others : n ≡ e.0 → AllByRecursion (λ k. nat_eq n k ≡ false) (keys_of es)
      others same = subst (λ (m : ℕ). AllByRecursion (λ k. nat_eq m k ≡ false) (keys_of es)) (sym same) (IsDistinct-head nat_eq e.0 (keys_of es) distinct)

      go : (b : Bool) → nat_eq n e.0 ≡ b → AreBelow n (remove_entry (nat_eq n) es) → AreBelow n (cond b es (e ∷ remove_entry (nat_eq n) es))
      go true found rest = below_less next n es is (others ((Decides-eqb n e.0).0 found)) below.1
      go false other rest =
          let under = below.0 in
          let differs : n ≡ e.0 → ⊥ = λ same. false_true (sym other ∙ (Decides-eqb n e.0).1 same) in
          (omega (arith, under, is, differs), rest)

  pub numbered_unmade : (next n : ℕ) (es fs : List (ℕ × A)) → n ≡ next - 1 → fs ≡ remove_entry (nat_eq n) es → IsDistinct nat_eq (keys_of fs) → AreNumbered next es → AreNumbered n fs
  numbered_unmade next n es fs is left differ numbered = record {
    differ = differ;
    below = subst (λ (xs : List (ℕ × A)). AreBelow n xs) (sym left) (below_unmade next n es is numbered.differ numbered.below);
  }

  module _ (n : ℕ) (a : A) where
    same_number : nat_eq n n ≡ true
    same_number = (Decides-eqb n n).1 refl

    -- the last one is found
    last_found : (es : List (ℕ × A)) → map.lookup (nat_eq n) (es ++ (n, a) ∷ []) ≡ None → ⊥
    last_found [] none = let there : Some a ≡ None = ap (λ b. cond b (Some a) None) (sym same_number) ∙ none in absurd cc
    last_found (e ∷ es) none = go (nat_eq n e.0) none (λ (gone : map.lookup (nat_eq n) (es ++ (n, a) ∷ []) ≡ None). last_found es gone)
      where
        go : (b : Bool) → cond b (Some e.1) (map.lookup (nat_eq n) (es ++ (n, a) ∷ [])) ≡ None → (map.lookup (nat_eq n) (es ++ (n, a) ∷ []) ≡ None → ⊥) → ⊥
        go true gone rest = let no : Some e.1 ≡ None = gone in absurd cc
        go false gone rest = rest gone

    -- no other has its number
    last_other : (e : ℕ × A) (es : List (ℕ × A)) → AllByRecursion (λ k. nat_eq e.0 k ≡ false) (keys_of (es ++ (n, a) ∷ [])) → nat_eq e.0 n ≡ false
    last_other e [] others = others.0
    last_other e (f ∷ es) others = last_other e es others.1

    last_removed : (es : List (ℕ × A)) → IsDistinct nat_eq (keys_of (es ++ (n, a) ∷ [])) → remove_entry (nat_eq n) (es ++ (n, a) ∷ []) ≡ es
    last_removed [] distinct = ap (λ b. cond b [] ((n, a) ∷ [])) same_number
    last_removed (e ∷ es) distinct =
        go (nat_eq n e.0) refl (last_removed es (IsDistinct-tail nat_eq e.0 (keys_of (es ++ (n, a) ∷ [])) distinct))
      where
        differs : e.0 ≡ n → ⊥
        differs same = false_true (sym (last_other e es (IsDistinct-head nat_eq e.0 (keys_of (es ++ (n, a) ∷ [])) distinct)) ∙ (Decides-eqb e.0 n).1 same)

        go : (b : Bool) → nat_eq n e.0 ≡ b → remove_entry (nat_eq n) (es ++ (n, a) ∷ []) ≡ es
            → cond b (es ++ (n, a) ∷ []) (e ∷ remove_entry (nat_eq n) (es ++ (n, a) ∷ [])) ≡ e ∷ es
        go true found rest = absurd (differs (sym ((Decides-eqb n e.0).0 found)))
        go false found rest = ap (λ (xs : List (ℕ × A)). e ∷ xs) rest

-- the table that the last make found
module _ (now : ℕ) (before old : Table) (made : old ≡ with_new now before) (es : List (ℕ × Leased)) (next : ℕ) (view : record { watches = es; next = next } ≡ old) where
  held : es ≡ before.watches ++ (before.next, new_watch now) ∷ []
  held = ap (λ (t : Table). t.watches) (view ∙ made)

  number : (n : ℕ) → n ≡ next - 1 → n ≡ before.next
  number n is =
      let one_more : next ≡ before.next + 1 = ap (λ (t : Table). t.next) (view ∙ made) in
      omega (arith, one_more, is)

  pub unmade_in : (n : ℕ) (fs : List (ℕ × Leased)) → n ≡ next - 1 → fs ≡ remove_entry (nat_eq n) es → AreNumbered next es → record { watches = fs; next = n } ≡ before
  unmade_in n fs is left numbered =
      let same = number n is in
      let rest : fs ≡ before.watches =
      left ∙ ap (λ (m : ℕ). remove_entry (nat_eq m) es) same ∙ ap (remove_entry (nat_eq before.next)) held
      ∙ last_removed before.next (new_watch now) before.watches (subst (λ (xs : List (ℕ × Leased)). IsDistinct nat_eq (keys_of xs)) held numbered.differ) in
      ap₂ (λ (xs : List (ℕ × Leased)) (m : ℕ). let t : Table = record { watches = xs; next = m } in t) rest same

  pub never_unheld : (n : ℕ) → n ≡ next - 1 → map.lookup (nat_eq n) es ≡ None → ⊥
  never_unheld n is none =
      last_found before.next (new_watch now) before.watches
      (sym (ap (map.lookup (nat_eq before.next)) held) ∙ sym (ap (λ (m : ℕ). map.lookup (nat_eq m) es) (number n is)) ∙ none)
