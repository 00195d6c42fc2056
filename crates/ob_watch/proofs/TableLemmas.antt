-- Watches under numbers.
use Rattle.std.proofs.Common.{◌≡◌, ℕ, zero, suc, ◌+◌, ◌<◌, ◌==◌, Bool, true, false, cond, not, ◌||◌, List, [], ◌∷◌, ◌++◌, length, take, get_or, refl, sym, ap, ap₂, subst, ◌∙◌, arith}
use Rattle.std.specs.Prelude.{Option, Some, None, Result, IfSome, MatchOption, is_some, nat_eq, option_map, slice_get}
use Rattle.std.specs.List.{AllByRecursion, IsDistinct, filter, list_any, count_by}
use Rattle.std.proofs.lemmas.Bool.Decides.{Decides-eqb}
use Rattle.std.proofs.lemmas.List.Recursion.{is_count_by}
use Rattle.std.specs.Map.{set_value, keys_of, values_of, remove_entry}
use Rattle.std.specs.Map as map
use Rattle.std.proofs.lemmas.Map.Keys.{IsDistinct-head, IsDistinct-tail}
use Rattle.ob_watching.specs.Tables.{lookup, replace, numbers_of}
use Rattle.ob_watching.specs.Watches.{Room}
use Rattle.std.proofs.lemmas.Map.Made.{IsDistinct-keys_filter}
use Rattle.ob_values.proofs.Bools.{bool_same}
use Rattle.ob_watch.specs.Held.{AreBelow, AreNumbered}
use Rattle.ob_watch.specs.declared.item.Item.{Item}
use Rattle.ob_watch.specs.declared.fault.WatchFault.{WatchFault}
use Rattle.ob_watch.specs.declared.watch.Due.{Due}
use Rattle.ob_tree.specs.Trees.{Stamped}
use Rattle.ob_watch.specs.Adding.{AddsAt, AddsNothing, AddsTo}
use Rattle.ob_watch.specs.Feeds.{FeedLog}
use Rattle.ob_watch.specs.Reported.{IsDue}
use Rattle.ob_watch.specs.Tables.{Leased, Table, at_number, holding, is_over, live, new_watch, next_due, with_all_items, with_new}
use Rattle.ob_watch.specs.Undo.{Undo}

pub eq_sym : (a b : ℕ) → nat_eq a b ≡ (b == a)
eq_sym a b =
    bool_same (nat_eq a b) (b == a)
    (λ e. (Decides-eqb b a).1 (sym ((Decides-eqb a b).0 e)))
    (λ e. (Decides-eqb a b).1 (sym ((Decides-eqb b a).0 e)))

module _ {A : Type 0} where
  -- the map's look-up is that of the tables
  pub looked_up : (n : ℕ) (es : List (ℕ × A)) → map.lookup (nat_eq n) es ≡ lookup n es
  looked_up n [] = refl
  looked_up n (e ∷ es) =
      ap (λ b. cond b (Some e.1) (map.lookup (nat_eq n) es)) (eq_sym n e.0)
      ∙ ap (λ (o : Option A). cond (e.0 == n) (Some e.1) o) (looked_up n es)

  -- a key that differs from all isn't found
  pub elsewhere : (n : ℕ) (es : List (ℕ × A)) → AllByRecursion (λ k. nat_eq n k ≡ false) (keys_of es) → lookup n es ≡ None
  elsewhere n [] all = refl
  elsewhere n (e ∷ es) all = ap (λ b. cond b (Some e.1) (lookup n es)) (sym (eq_sym n e.0) ∙ all.0) ∙ elsewhere n es all.1

  -- what is kept of distinct numbers is found where it passes
  module _ (keeps : A → Bool) where
    abbrev pub kept_if : Option A → Option A
    kept_if None = None
    kept_if (Some a) = cond (keeps a) (Some a) None

    not_kept : (n : ℕ) (es : List (ℕ × A)) → lookup n es ≡ None → lookup n (filter (λ e. keeps e.1) es) ≡ None
    not_kept n [] none = refl
    not_kept n (e ∷ es) none = go (e.0 == n) refl (keeps e.1) none (not_kept n es)
      where
        go : (b : Bool) → (e.0 == n) ≡ b → (c : Bool) → cond b (Some e.1) (lookup n es) ≡ None → (lookup n es ≡ None → lookup n (filter (λ e. keeps e.1) es) ≡ None)
            → lookup n (cond c (e ∷ filter (λ e. keeps e.1) es) (filter (λ e. keeps e.1) es)) ≡ None
        go true is c none rest = absurd (let f : Some e.1 ≡ None = none in cc)
        go false is true none rest = ap (λ b. cond b (Some e.1) (lookup n (filter (λ e. keeps e.1) es))) is ∙ rest none
        go false is false none rest = rest none

    pub kept : (n : ℕ) (es : List (ℕ × A)) → IsDistinct nat_eq (keys_of es) → lookup n (filter (λ e. keeps e.1) es) ≡ kept_if (lookup n es)
    kept n [] distinct = refl
    kept n (e ∷ es) distinct = go (e.0 == n) refl (keeps e.1) refl (kept n es (IsDistinct-tail nat_eq e.0 (keys_of es) distinct))
      where
        none_there : (e.0 == n) ≡ true → lookup n es ≡ None
        none_there is =
            let same : e.0 ≡ n = (Decides-eqb e.0 n).0 is in
            subst (λ k. lookup k es ≡ None) same (elsewhere e.0 es (IsDistinct-head nat_eq e.0 (keys_of es) distinct))

        go : (b : Bool) → (e.0 == n) ≡ b → (c : Bool) → keeps e.1 ≡ c → lookup n (filter (λ e. keeps e.1) es) ≡ kept_if (lookup n es)
            → lookup n (cond c (e ∷ filter (λ e. keeps e.1) es) (filter (λ e. keeps e.1) es)) ≡ kept_if (cond b (Some e.1) (lookup n es))
        go true is true keep rest = ap (λ b. cond b (Some e.1) (lookup n (filter (λ e. keeps e.1) es))) is ∙ sym (ap (λ c. cond c (Some e.1) None) keep)
        go true is false keep rest = not_kept n es (none_there is) ∙ sym (ap (λ c. cond c (Some e.1) None) keep)
        go false is true keep rest = ap (λ b. cond b (Some e.1) (lookup n (filter (λ e. keeps e.1) es))) is ∙ rest
        go false is false keep rest = rest

-- ---- the watch of a number another

abbrev pub Numbered : Type 0
Numbered = List (ℕ × Leased)

module _ {A : Type 0} where
  -- what isn't there isn't replaced
  pub none_replaced : (n : ℕ) (o : Option A) (es : List (ℕ × A)) → lookup n es ≡ None → replace n o es ≡ es
  none_replaced n None [] none = refl
  none_replaced n (Some a) [] none = refl
  none_replaced n None (e ∷ es) none = go (e.0 == n) none (none_replaced n None es)
    where
      go : (b : Bool) → cond b (Some e.1) (lookup n es) ≡ None → (lookup n es ≡ None → replace n None es ≡ es) → cond b (replace n None es) (e ∷ replace n None es) ≡ e ∷ es
      go true none rest = absurd (let f : Some e.1 ≡ None = none in cc)
      go false none rest = ap (λ (xs : List (ℕ × A)). e ∷ xs) (rest none)
  none_replaced n (Some a) (e ∷ es) none = go (e.0 == n) none (none_replaced n (Some a) es)
    where
      go : (b : Bool) → cond b (Some e.1) (lookup n es) ≡ None → (lookup n es ≡ None → replace n (Some a) es ≡ es) → (e.0, cond b a e.1) ∷ replace n (Some a) es ≡ e ∷ es
      go true none rest = absurd (let f : Some e.1 ≡ None = none in cc)
      go false none rest = ap (λ (xs : List (ℕ × A)). e ∷ xs) (rest none)

  others_stay : (n : ℕ) (o : Option A) (e : ℕ × A) (es : List (ℕ × A)) → IsDistinct nat_eq (keys_of (e ∷ es)) → nat_eq n e.0 ≡ true → replace n o es ≡ es
  others_stay n o e es distinct is =
      let same : n ≡ e.0 = (Decides-eqb n e.0).0 is in
      none_replaced n o es (subst (λ k. lookup k es ≡ None) (sym same) (elsewhere e.0 es (IsDistinct-head nat_eq e.0 (keys_of es) distinct)))

  -- the value of a number set
  pub set_at : (n : ℕ) (a : A) (es : List (ℕ × A)) → IsDistinct nat_eq (keys_of es) → set_value (nat_eq n) es a ≡ replace n (Some a) es
  set_at n a [] distinct = refl
  set_at n a (e ∷ es) distinct = go (nat_eq n e.0) refl (set_at n a es (IsDistinct-tail nat_eq e.0 (keys_of es) distinct))
    where
      go : (b : Bool) → nat_eq n e.0 ≡ b → set_value (nat_eq n) es a ≡ replace n (Some a) es
          → cond b ((e.0, a) ∷ es) (e ∷ set_value (nat_eq n) es a) ≡ (e.0, cond (e.0 == n) a e.1) ∷ replace n (Some a) es
      go true is rest =
          ap (λ b. (e.0, cond b a e.1) ∷ es) (sym (sym (eq_sym n e.0) ∙ is))
          ∙ ap (λ (xs : List (ℕ × A)). (e.0, cond (e.0 == n) a e.1) ∷ xs) (sym (others_stay n (Some a) e es distinct is))
      go false is rest =
          ap (λ (xs : List (ℕ × A)). e ∷ xs) rest
          ∙ ap (λ b. (e.0, cond b a e.1) ∷ replace n (Some a) es) (sym (sym (eq_sym n e.0) ∙ is))

  -- the entry of a number taken out
  pub removed_at : (n : ℕ) (es : List (ℕ × A)) → IsDistinct nat_eq (keys_of es) → remove_entry (nat_eq n) es ≡ replace n None es
  removed_at n [] distinct = refl
  removed_at n (e ∷ es) distinct = go (nat_eq n e.0) refl (removed_at n es (IsDistinct-tail nat_eq e.0 (keys_of es) distinct))
    where
      go : (b : Bool) → nat_eq n e.0 ≡ b → remove_entry (nat_eq n) es ≡ replace n None es → cond b es (e ∷ remove_entry (nat_eq n) es) ≡ cond (e.0 == n) (replace n None es) (e ∷ replace n None es)
      go true is rest =
          sym (others_stay n None e es distinct is)
          ∙ ap (λ b. cond b (replace n None es) (e ∷ replace n None es)) (sym (sym (eq_sym n e.0) ∙ is))
      go false is rest =
          ap (λ (xs : List (ℕ × A)). e ∷ xs) rest
          ∙ ap (λ b. cond b (replace n None es) (e ∷ replace n None es)) (sym (sym (eq_sym n e.0) ∙ is))

module _ (f : Leased → Leased) where
  pub unchanged_at : (n : ℕ) (es : Numbered) → map.lookup (nat_eq n) es ≡ None → at_number n f es ≡ es
  unchanged_at n es none = none_replaced n (option_map f (lookup n es)) es (sym (looked_up n es) ∙ none)

  pub changed_at : (n : ℕ) (es : Numbered) (v : Leased) → IsDistinct nat_eq (keys_of es) → map.lookup (nat_eq n) es ≡ Some v → set_value (nat_eq n) es (f v) ≡ at_number n f es
  changed_at n es v distinct there =
      set_at n (f v) es distinct
      ∙ ap (λ (o : Option Leased). replace n (option_map f o) es) (sym (sym (looked_up n es) ∙ there))

-- ---- numbers below the next

module _ {A B : Type 0} where
  pub below_by_keys : (next : ℕ) (es : List (ℕ × A)) (fs : List (ℕ × B)) → keys_of fs ≡ keys_of es → AreBelow next es → AreBelow next fs
  below_by_keys next [] [] same below = tt
  below_by_keys next [] (f ∷ fs) same below = absurd (let g : (f.0 ∷ keys_of fs) ≡ [] = same in cc)
  below_by_keys next (e ∷ es) [] same below = tt
  below_by_keys next (e ∷ es) (f ∷ fs) same below =
      let first : f.0 ≡ e.0 = cc in
      let rest : keys_of fs ≡ keys_of es = cc in
      (subst (λ k. k < next) (sym first) below.0, below_by_keys next es fs rest below.1)

module _ {A : Type 0} where
  pub below_more : (next : ℕ) (es : List (ℕ × A)) (a : A) → AreBelow next es → AreBelow (next + 1) (es ++ (next, a) ∷ [])
  below_more next [] a below = (omega arith, tt)
  below_more next (e ∷ es) a below = (omega (arith, below.0), below_more next es a below.1)

  pub below_filter : (next : ℕ) (p : ℕ × A → Bool) (es : List (ℕ × A)) → AreBelow next es → AreBelow next (filter p es)
  below_filter next p [] below = tt
  below_filter next p (e ∷ es) below = go (p e) (below_filter next p es below.1)
    where
      go : (b : Bool) → AreBelow next (filter p es) → AreBelow next (cond b (e ∷ filter p es) (filter p es))
      go true rest = (below.0, rest)
      go false rest = rest

  pub below_removed : (next : ℕ) (test : ℕ → Bool) (es : List (ℕ × A)) → AreBelow next es → AreBelow next (remove_entry test es)
  below_removed next test [] below = tt
  below_removed next test (e ∷ es) below = go (test e.0) (below_removed next test es below.1)
    where
      go : (b : Bool) → AreBelow next (remove_entry test es) → AreBelow next (cond b es (e ∷ remove_entry test es))
      go true rest = below.1
      go false rest = (below.0, rest)

  -- the next number isn't there
  pub next_is_new : (next : ℕ) (es : List (ℕ × A)) → AreBelow next es → map.lookup (nat_eq next) es ≡ None
  next_is_new next [] below = refl
  next_is_new next (e ∷ es) below = go (nat_eq next e.0) refl (next_is_new next es below.1)
    where
      go : (b : Bool) → nat_eq next e.0 ≡ b → map.lookup (nat_eq next) es ≡ None → cond b (Some e.1) (map.lookup (nat_eq next) es) ≡ None
      go true is rest =
          let same : next ≡ e.0 = (Decides-eqb next e.0).0 is in
          absurd (omega (arith, below.0))
      go false is rest = rest

-- ---- live watches

pub any_values : {A : Type 0} (p : A → Bool) (es : List (ℕ × A)) → list_any p (values_of es) ≡ list_any (λ e. p e.1) es
any_values p [] = refl
any_values p (e ∷ es) = ap (λ b. p e.1 || b) (any_values p es)

pub none_lapsed : (now : ℕ) (es : Numbered) → list_any (λ e. is_over now e.1) es ≡ false → live now es ≡ es
none_lapsed now [] none = refl
none_lapsed now (e ∷ es) none = go (is_over now e.1) none (none_lapsed now es)
  where
    go : (b : Bool) → (b || list_any (λ e. is_over now e.1) es) ≡ false → (list_any (λ e. is_over now e.1) es ≡ false → live now es ≡ es) → cond (not b) (e ∷ live now es) (live now es) ≡ e ∷ es
    go true none rest = absurd (let f : true ≡ false = none in cc)
    go false none rest = ap (λ (xs : Numbered). e ∷ xs) (rest none)

passing : (p : Leased → Bool) (es : Numbered) → length (filter p (values_of es)) ≡ length (filter (λ e. p e.1) es)
passing p [] = refl
passing p (e ∷ es) = go (p e.1) (passing p es)
  where
    go : (b : Bool) → length (filter p (values_of es)) ≡ length (filter (λ e. p e.1) es) → length (cond b (e.1 ∷ filter p (values_of es)) (filter p (values_of es))) ≡ length (cond b (e ∷ filter (λ e. p e.1) es) (filter (λ e. p e.1) es))
    go true rest = ap suc rest
    go false rest = rest

pub counted : (p : Leased → Bool) (es : Numbered) → count_by p (values_of es) ≡ length (filter (λ e. p e.1) es)
counted p es = sym (is_count_by (λ ws. length (filter p ws)) p refl step (values_of es)) ∙ passing p es
  where
    step : (w : Leased) (ws : List Leased) → length (filter p (w ∷ ws)) ≡ cond (p w) (1 + length (filter p ws)) (length (filter p ws))
    step w ws = go (p w)
      where
        go : (b : Bool) → length (cond b (w ∷ filter p ws) (filter p ws)) ≡ cond b (1 + length (filter p ws)) (length (filter p ws))
        go true = omega arith
        go false = refl

module _ (now n : ℕ) (es : Numbered) (distinct : IsDistinct nat_eq (keys_of es)) where
  -- what is looked up of the live watches
  live_lookup : (o : Option Leased) → map.lookup (nat_eq n) es ≡ o → lookup n (live now es) ≡ kept_if (λ w. not (is_over now w)) o
  live_lookup o found = kept (λ w. not (is_over now w)) n es distinct ∙ ap (kept_if (λ w. not (is_over now w))) (sym (looked_up n es) ∙ found)

  pub none_live : map.lookup (nat_eq n) es ≡ None → None ≡ lookup n (live now es)
  none_live none = sym (live_lookup None none)

  pub over_live : (w : Leased) → map.lookup (nat_eq n) es ≡ Some w → is_over now w ≡ true → None ≡ lookup n (live now es)
  over_live w found over = sym (live_lookup (Some w) found ∙ ap (λ b. cond (not b) (Some w) None) over)

  pub one_live : (w : Leased) → map.lookup (nat_eq n) es ≡ Some w → is_over now w ≡ false → Some w ≡ lookup n (live now es)
  one_live w found fresh = sym (live_lookup (Some w) found ∙ ap (λ b. cond (not b) (Some w) None) fresh)

module _ (n : ℕ) (f : Leased → Leased) (es fs : Numbered) where
  -- a watch that was written through its loan
  pub written : (v w : Leased) → IsDistinct nat_eq (keys_of es) → map.lookup (nat_eq n) es ≡ Some v → w ≡ f v → fs ≡ set_value (nat_eq n) es w → fs ≡ at_number n f es
  written v w distinct there is set = set ∙ ap (set_value (nat_eq n) es) is ∙ changed_at f n es v distinct there

-- the number of one more watch, where it is live
pub live_next : (now : ℕ) (es : Numbered) (k n : ℕ) (w d : Leased) → k < length es → n ≡ get_or (keys_of es) k 0 → w ≡ get_or (values_of es) k d
    → numbers_of (live now (take (k + 1) es)) ≡ numbers_of (live now (take k es)) ++ cond (not (is_over now w)) (n ∷ []) []
live_next now [] k n w d lt key value = absurd (omega arith)
live_next now (e ∷ es) zero n w d lt key value =
    let one : take (0 + 1) (e ∷ es) ≡ e ∷ [] = refl in
    ap (λ (xs : Numbered). numbers_of (live now xs)) one
    ∙ go (is_over now e.1)
    ∙ ap₂ (λ (m : ℕ) (v : Leased). cond (not (is_over now v)) (m ∷ []) []) (sym key) (sym value)
  where
    go : (b : Bool) → numbers_of (cond (not b) (e ∷ []) []) ≡ cond (not b) (e.0 ∷ []) []
    go true = refl
    go false = refl
live_next now (e ∷ es) (suc k) n w d lt key value =
    let next : suc k + 1 ≡ suc (k + 1) = omega arith in
    ap (λ m. numbers_of (live now (take m (e ∷ es)))) next
    ∙ go (is_over now e.1) (live_next now es k n w d (omega arith) key value)
  where
    go : (b : Bool) → numbers_of (live now (take (k + 1) es)) ≡ numbers_of (live now (take k es)) ++ cond (not (is_over now w)) (n ∷ []) []
        → numbers_of (cond (not b) (e ∷ live now (take (k + 1) es)) (live now (take (k + 1) es))) ≡ numbers_of (cond (not b) (e ∷ live now (take k es)) (live now (take k es))) ++ cond (not (is_over now w)) (n ∷ []) []
    go true rest = rest
    go false rest = ap (λ (ns : List ℕ). e.0 ∷ ns) rest

-- ---- the numbers differ, and stay below the next one

module _ {A : Type 0} (next : ℕ) (es : List (ℕ × A)) where
  pub numbered_same : (fs : List (ℕ × A)) → keys_of fs ≡ keys_of es → AreNumbered next es → AreNumbered next fs
  numbered_same fs same numbered = record {
    differ = subst (λ (ks : List ℕ). IsDistinct nat_eq ks) (sym same) numbered.differ;
    below = below_by_keys next es fs same numbered.below;
  }

  pub numbered_removed : (test : ℕ → Bool) (fs : List (ℕ × A)) → fs ≡ remove_entry test es → IsDistinct nat_eq (keys_of fs) → AreNumbered next es → AreNumbered next fs
  numbered_removed test fs left differ numbered = record {
    differ = differ;
    below = subst (λ (xs : List (ℕ × A)). AreBelow next xs) (sym left) (below_removed next test es numbered.below);
  }

  pub numbered_pushed : (fs : List (ℕ × A)) (a : A) → fs ≡ es ++ (next, a) ∷ [] → IsDistinct nat_eq (keys_of fs) → AreNumbered next es → AreNumbered (next + 1) fs
  numbered_pushed fs a left differ numbered = record {
    differ = differ;
    below = subst (λ (xs : List (ℕ × A)). AreBelow (next + 1) xs) (sym left) (below_more next es a numbered.below);
  }

  pub numbered_filter : (p : ℕ × A → Bool) (fs : List (ℕ × A)) → fs ≡ filter p es → AreNumbered next es → AreNumbered next fs
  numbered_filter p fs left numbered = subst (λ (xs : List (ℕ × A)). AreNumbered next xs) (sym left) (record {
    differ = IsDistinct-keys_filter nat_eq p es numbered.differ;
    below = below_filter next p es numbered.below;
  })

keys_with_items : (f : Item → Item) (es : Numbered) → keys_of (with_all_items f es) ≡ keys_of es
keys_with_items f [] = refl
keys_with_items f (e ∷ es) = ap (λ (ks : List ℕ). e.0 ∷ ks) (keys_with_items f es)

pub numbered_changed : (f : Item → Item) (next : ℕ) (es fs : Numbered) → fs ≡ with_all_items f es → AreNumbered next es → AreNumbered next fs
numbered_changed f next es fs left numbered = numbered_same next es fs (ap keys_of left ∙ keys_with_items f es) numbered

-- ---- what a table is after its watches are others

abbrev pub table : Numbered → ℕ → Table
table ws next = record { watches = ws; next = next }

module _ (n : ℕ) (es : Numbered) (next : ℕ) (t : Table) (view : table es next ≡ t) where
  pub is_held : (o : Option Leased) → map.lookup (nat_eq n) es ≡ o → is_some o ≡ is_some (lookup n t.watches)
  is_held o found = ap is_some (sym found ∙ looked_up n es) ∙ ap (λ (u : Table). is_some (lookup n u.watches)) view

  pub found_in : (o : Option Leased) → map.lookup (nat_eq n) es ≡ o → lookup n t.watches ≡ o
  found_in o found = ap (λ (u : Table). lookup n u.watches) (sym view) ∙ sym (looked_up n es) ∙ found

  -- where no watch of the number is held nothing changes
  pub none_written : (f : Leased → Leased) (fs : Numbered) → map.lookup (nat_eq n) es ≡ None → fs ≡ es → table fs next ≡ holding (at_number n f t.watches) t
  none_written f fs none same =
      ap (λ (xs : Numbered). table xs next) (same ∙ sym (unchanged_at f n es none))
      ∙ ap (λ (u : Table). holding (at_number n f u.watches) u) view

  -- a watch is written through its loan
  pub one_written : (f : Leased → Leased) (fs : Numbered) (v w : Leased) → AreNumbered next es → map.lookup (nat_eq n) es ≡ Some v → w ≡ f v → fs ≡ set_value (nat_eq n) es w
      → table fs next ≡ holding (at_number n f t.watches) t
  one_written f fs v w numbered there is left =
      ap (λ (xs : Numbered). table xs next) (written n f es fs v w numbered.differ there is left)
      ∙ ap (λ (u : Table). holding (at_number n f u.watches) u) view

  pub one_removed : (fs : Numbered) → AreNumbered next es → fs ≡ remove_entry (nat_eq n) es → table fs next ≡ holding (replace n None t.watches) t
  one_removed fs numbered left =
      ap (λ (xs : Numbered). table xs next) (left ∙ removed_at n es numbered.differ)
      ∙ ap (λ (u : Table). holding (replace n None u.watches) u) view

pub others_held : (ws es : Numbered) (next : ℕ) (t : Table) (f : Numbered → Numbered) → table es next ≡ t → ws ≡ f es → table ws next ≡ holding (f t.watches) t
others_held ws es next t f view left = ap (λ (xs : Numbered). table xs next) left ∙ ap (λ (u : Table). holding (f u.watches) u) view

pub made_in : (now : ℕ) (es fs : Numbered) (next : ℕ) (t : Table) → table es next ≡ t → fs ≡ es ++ (next, new_watch now) ∷ [] → table fs (next + 1) ≡ with_new now t
made_in now es fs next t view left = ap (λ (xs : Numbered). table xs (next + 1)) left ∙ ap (with_new now) view

-- ---- cases of a look-up

module _ (n : ℕ) (item : Item) (room : Room) (old new : Table) (undo undone : Undo) (result : Result (Unit {0}) WatchFault) where
  pub adds_nothing : lookup n old.watches ≡ None → AddsNothing old new undo undone result → AddsAt n item room old new undo undone result
  adds_nothing none adds =
      subst (λ (o : Option Leased). MatchOption o (AddsNothing old new undo undone result) (AddsTo n item room old new undo undone result)) (sym none) adds

  pub adds_to : (w : Leased) → lookup n old.watches ≡ Some w → AddsTo n item room old new undo undone result w → AddsAt n item room old new undo undone result
  adds_to w there adds =
      subst (λ (o : Option Leased). MatchOption o (AddsNothing old new undo undone result) (AddsTo n item room old new undo undone result)) (sym there) adds

pub if_none : {A : Type 0} (o : Option A) (P : A → Type 0) → o ≡ None → IfSome o P
if_none {A} o P none = subst (λ (p : Option A). IfSome p P) (sym none) tt

pub if_some : {A : Type 0} (o : Option A) (P : A → Type 0) (a : A) → o ≡ Some a → P a → IfSome o P
if_some {A} o P a some holds = subst (λ (p : Option A). IfSome p P) (sym some) holds

pub due_in : (t : Stamped) (feeds : List FeedLog) (place : ℕ) (w : Leased) (r : Option Due) → option_map (λ d. d.place) r ≡ next_due t feeds place w.items → IfSome r (λ d. slice_get w.items d.place ≡ Some d.item.now) → IsDue t feeds place (Some w) r
due_in t feeds place w None found item = sym found
due_in t feeds place w (Some d) found item = (sym found, item)
