-- What was added to a watch is taken back.
use Rattle.std.proofs.Common.{◌≡◌, ℕ, ◌==◌, Bool, true, false, cond, [], ◌∷◌, Option, Some, None, refl, sym, ap, ◌∙◌, subst}
use Rattle.std.specs.Prelude.{option_map, nat_eq}
use Rattle.std.specs.List.{IsDistinct}
use Rattle.std.proofs.lemmas.Bool.Decides.{Decides-eqb}
use Rattle.std.proofs.lemmas.Map.Keys.{IsDistinct-head, IsDistinct-tail}
use Rattle.ob_watching.specs.Tables.{lookup, numbers_of, replace}
use Rattle.ob_watch.specs.Tables.{Leased, Table, at_number, holding, watching}
use Rattle.ob_watch.proofs.LapseLemmas.{lapses_commute}
use Rattle.ob_watch.proofs.TableLemmas.{Numbered}
use Rattle.ob_watch.proofs.TableLemmas.{elsewhere, none_replaced}

some_same : (a b : Leased) → (let r : Option Leased = Some a in r) ≡ Some b → a ≡ b
some_same a b h = cc

none_same : (b : Leased) → (let r : Option Leased = None in r) ≡ Some b → ⊥
none_same b h = cc

-- the watch of a number put where it is
pub same_put : (n : ℕ) (v : Leased) (ws : Numbered) → IsDistinct nat_eq (numbers_of ws) → lookup n ws ≡ Some v → replace n (Some v) ws ≡ ws
same_put n v [] distinct there = absurd (none_same v there)
same_put n v (w ∷ ws) distinct there = go (w.0 == n) refl there (same_put n v ws (IsDistinct-tail nat_eq w.0 (numbers_of ws) distinct))
  where
    none_there : (w.0 == n) ≡ true → lookup n ws ≡ None
    none_there is =
        let same : w.0 ≡ n = (Decides-eqb w.0 n).0 is in
        subst (λ k. lookup k ws ≡ None) same (elsewhere w.0 ws (IsDistinct-head nat_eq w.0 (numbers_of ws) distinct))

    go : (b : Bool) → (w.0 == n) ≡ b → cond b (Some w.1) (lookup n ws) ≡ Some v → (lookup n ws ≡ Some v → replace n (Some v) ws ≡ ws) → (w.0, cond b v w.1) ∷ replace n (Some v) ws ≡ w ∷ ws
    go true is there rest =
        ap (λ (x : Leased). (w.0, x) ∷ replace n (Some v) ws) (sym (some_same w.1 v there))
        ∙ ap (λ (xs : Numbered). w ∷ xs) (none_replaced n (Some v) ws (none_there is))
    go false is there rest = ap (λ (xs : Numbered). w ∷ xs) (rest there)

-- A watch with other items that has its items again leaves the table as it was.
pub undone : (n : ℕ) (old mid new : Table) (w left : Leased) → IsDistinct nat_eq (numbers_of old.watches) → lookup n old.watches ≡ Some w
    → mid ≡ holding (at_number n (λ _. left) old.watches) old → left ≡ watching left.items w → new ≡ holding (at_number n (watching w.items) mid.watches) mid → new ≡ old
undone n old mid new w left distinct there first same second =
    second
    ∙ ap (λ (t : Table). holding (at_number n (watching w.items) t.watches) t) first
    ∙ ap (λ (ws : Numbered). holding ws old) ((lapses_commute 0).twice n (watching w.items) (λ _. left) old.watches)
    ∙ ap (λ (o : Option Leased). holding (replace n (option_map (λ _. watching w.items left) o) old.watches) old) there
    ∙ ap (λ (v : Leased). holding (replace n (Some (watching w.items v)) old.watches) old) same
    ∙ ap (λ (ws : Numbered). holding ws old) (same_put n w old.watches distinct there)
