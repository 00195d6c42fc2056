-- Moments before which no lease runs out, and watches whose lease has run out.
use Rattle.std.proofs.Common.{◌≡◌, ℕ, zero, suc, ◌+◌, ◌*◌, ◌/◌, ◌<◌, ◌≤◌, ◌==◌, min, Bool, true, false, cond, not, ◌||◌, List, [], ◌∷◌, ◌++◌, map as map_all, length, take, get_or, refl, sym, ap, ap₂, subst, ◌∙◌, arith}
use Rattle.std.specs.Prelude.{Option, Some, None, Ok, Err, nat_eq, option_map}
use Rattle.std.specs.List.{AllByRecursion, IsDistinct, list_any}
use Rattle.std.specs.Map.{set_value, values_of, remove_entry}
use Rattle.std.specs.Map as map
use Rattle.std.proofs.Math.Nat.{div-mul-le_self, min-le_left, min-le_right}
use Rattle.std.proofs.lemmas.Bool.{lt-leb}
use Rattle.std.proofs.lemmas.Bool.Decides.{nat_tests, Decides-eqb}
use Rattle.std.proofs.lemmas.Map.Keys.{IsDistinct-head, IsDistinct-tail}
use Rattle.ob_watching.specs.Tables.{lookup, numbers_of, replace}
use Rattle.ob_watching.specs.Watches.{Room}
use Rattle.ob_watch.specs.declared.item.Item.{Item}
use Rattle.ob_watch.specs.Adding.{Added, Adds}
use Rattle.ob_watch.specs.AsRules.{AllLapse}
use Rattle.ob_watch.specs.Tables.{AllStandUntil, Leased, StandsUntil, Table, at_number, is_over, lapsed_at, live, new_watch, watching, with_all_items}
use Rattle.ob_watch.proofs.TableLemmas.{Numbered, elsewhere, none_lapsed, none_replaced, table}

pub to_its_end : (m : ℕ) (w : Leased) → m ≤ w.touched + w.lease / 1_000_000 → StandsUntil m w
to_its_end m w le = λ now lt.
    let whole = div-mul-le_self w.lease 1_000_000 in
    lt-leb (w.touched * 1_000_000 + w.lease) (now * 1_000_000) (omega (arith, le, lt, whole))

-- a watch with an item more lapses as before
pub added_lapses : (room : Room) (w left : Leased) (item : Item) (r : Added) → Adds room w left item r → (now : ℕ) → is_over now left ≡ is_over now w
added_lapses room w left item (Ok _) adds = λ now. ap (is_over now) adds.1
added_lapses room w left item (Err fault) adds = λ now. ap (is_over now) adds.0

-- an earlier moment
module _ (m k : ℕ) (le : k ≤ m) where
  stands_sooner : (w : Leased) → StandsUntil m w → StandsUntil k w
  stands_sooner w stands = λ now lt. stands now (omega (arith, le, lt))

  all_sooner : (ws : List Leased) → AllByRecursion (StandsUntil m) ws → AllByRecursion (StandsUntil k) ws
  all_sooner [] all = tt
  all_sooner (w ∷ ws) all = (stands_sooner w all.0, all_sooner ws all.1)

  held_sooner : (es : Numbered) → AllStandUntil m es → AllStandUntil k es
  held_sooner [] all = tt
  held_sooner (e ∷ es) all = (stands_sooner e.1 all.0, held_sooner es all.1)

module _ (m : ℕ) where
  pub stand_values : (es : Numbered) (ws : List Leased) → ws ≡ values_of es → AllByRecursion (StandsUntil m) ws → AllStandUntil m es
  stand_values es ws are all = go es (subst (λ (xs : List Leased). AllByRecursion (StandsUntil m) xs) are all)
    where
      go : (fs : Numbered) → AllByRecursion (StandsUntil m) (values_of fs) → AllStandUntil m fs
      go [] each = tt
      go (f ∷ fs) each = (each.0, go fs each.1)

  -- one of them
  stand_found : (test : ℕ → Bool) (es : Numbered) (v : Leased) → map.lookup test es ≡ Some v → AllStandUntil m es → StandsUntil m v
  stand_found test [] v there all = absurd cc
  stand_found test (e ∷ es) v there all = go (test e.0) there (stand_found test es v)
    where
      go : (b : Bool) → cond b (Some e.1) (map.lookup test es) ≡ Some v → (map.lookup test es ≡ Some v → AllStandUntil m es → StandsUntil m v) → StandsUntil m v
      go true is rest =
          let same : e.1 ≡ v = cc in
          subst (StandsUntil m) same all.0
      go false is rest = rest is all.1

  stand_set : (test : ℕ → Bool) (es : Numbered) (w : Leased) → StandsUntil m w → AllStandUntil m es → AllStandUntil m (set_value test es w)
  stand_set test [] w stands all = tt
  stand_set test (e ∷ es) w stands all = go (test e.0) (stand_set test es w stands all.1)
    where
      go : (b : Bool) → AllStandUntil m (set_value test es w) → AllStandUntil m (cond b ((e.0, w) ∷ es) (e ∷ set_value test es w))
      go true rest = (stands, all.1)
      go false rest = (all.0, rest)

  -- a watch is another, whose lease runs out as before
  pub stand_same : (test : ℕ → Bool) (es fs : Numbered) (v w : Leased) → map.lookup test es ≡ Some v → ((now : ℕ) → is_over now w ≡ is_over now v) → fs ≡ set_value test es w
      → AllStandUntil m es → AllStandUntil m fs
  stand_same test es fs v w there same set all =
      subst (λ (xs : Numbered). AllStandUntil m xs) (sym set)
      (stand_set test es w (λ now lt. same now ∙ stand_found test es v there all now lt) all)

  pub stand_removed : (test : ℕ → Bool) (es fs : Numbered) → fs ≡ remove_entry test es → AllStandUntil m es → AllStandUntil m fs
  stand_removed test es fs left all = subst (λ (xs : Numbered). AllStandUntil m xs) (sym left) (go es all)
    where
      go : (xs : Numbered) → AllStandUntil m xs → AllStandUntil m (remove_entry test xs)
      go [] each = tt
      go (x ∷ xs) each = there (test x.0) (go xs each.1)
        where
          there : (b : Bool) → AllStandUntil m (remove_entry test xs) → AllStandUntil m (cond b xs (x ∷ remove_entry test xs))
          there true rest = each.1
          there false rest = (each.0, rest)

  pub stand_changed : (f : Item → Item) (es fs : Numbered) → fs ≡ with_all_items f es → AllStandUntil m es → AllStandUntil m fs
  stand_changed f es fs left all = subst (λ (xs : Numbered). AllStandUntil m xs) (sym left) (go es all)
    where
      go : (xs : Numbered) → AllStandUntil m xs → AllStandUntil m (with_all_items f xs)
      go [] each = tt
      go (x ∷ xs) each = (each.0, go xs each.1)

  -- before it nothing lapses
  none_over : (now : ℕ) (es : Numbered) → now < m → AllStandUntil m es → list_any (λ e. is_over now e.1) es ≡ false
  none_over now [] lt all = refl
  none_over now (e ∷ es) lt all = ap₂ (λ (a b : Bool). a || b) (all.0 now lt) (none_over now es lt all.1)

  pub none_swept : (now : ℕ) (es : Numbered) (next : ℕ) (t : Table) → table es next ≡ t → now < m → AllStandUntil m es → t ≡ lapsed_at now t
  none_swept now es next t view lt all =
      subst (λ (u : Table). u ≡ lapsed_at now u) view
      (ap (λ (ws : Numbered). table ws next) (sym (none_lapsed now es (none_over now es lt all))))

-- the sooner of two moments
module _ (old until new : ℕ) (least : new ≡ min old until) where
  not_later : new ≤ old
  not_later = subst (λ (n : ℕ). n ≤ old) (sym least) (min-le_left old until)

  not_past : new ≤ until
  not_past = subst (λ (n : ℕ). n ≤ until) (sym least) (min-le_right old until)

  -- a watch is another
  pub stand_written : (test : ℕ → Bool) (es fs : Numbered) (w : Leased) → StandsUntil until w → fs ≡ set_value test es w → AllStandUntil old es → AllStandUntil new fs
  stand_written test es fs w stands set all =
      subst (λ (xs : Numbered). AllStandUntil new xs) (sym set)
      (stand_set new test es w (stands_sooner until new not_past w stands) (held_sooner old new not_later es all))

  -- one more watch
  pub stand_pushed : (es fs : Numbered) (n : ℕ) (w : Leased) → StandsUntil until w → fs ≡ es ++ (n, w) ∷ [] → AllStandUntil old es → AllStandUntil new fs
  stand_pushed es fs n w stands left all = subst (λ (xs : Numbered). AllStandUntil new xs) (sym left) (go es (held_sooner old new not_later es all))
    where
      go : (xs : Numbered) → AllStandUntil new xs → AllStandUntil new (xs ++ (n, w) ∷ [])
      go [] each = (stands_sooner until new not_past w stands, tt)
      go (x ∷ xs) each = (each.0, go xs each.1)

  -- the first so many and the next
  pub stand_next : (ws : List Leased) (k : ℕ) (w : Leased) → StandsUntil until w → k < length ws → w ≡ get_or ws k w
      → AllByRecursion (StandsUntil old) (take k ws) → AllByRecursion (StandsUntil new) (take (k + 1) ws)
  stand_next ws k w stands lt at all = go ws k lt at (all_sooner old new not_later (take k ws) all)
    where
      go : (xs : List Leased) (n : ℕ) → n < length xs → w ≡ get_or xs n w → AllByRecursion (StandsUntil new) (take n xs) → AllByRecursion (StandsUntil new) (take (n + 1) xs)
      go [] n few is each = absurd (omega (arith, few))
      go (x ∷ xs) zero few is each = (subst (StandsUntil new) is (stands_sooner until new not_past w stands), tt)
      go (x ∷ xs) (suc n) few is each =
          let next : suc n + 1 ≡ suc (n + 1) = omega arith in
          subst (λ (j : ℕ). AllByRecursion (StandsUntil new) (take j (x ∷ xs))) (sym next) (each.0, go xs n (omega (arith, few)) is each.1)

-- ---- lapsed watches

module _ (now : ℕ) where
  live_deleted : (n : ℕ) (ws : Numbered) → live now (replace n None ws) ≡ replace n None (live now ws)
  live_deleted n [] = refl
  live_deleted n (w ∷ ws) = go (w.0 == n) refl (is_over now w.1) refl (live_deleted n ws)
    where
      go : (b : Bool) → (w.0 == n) ≡ b → (c : Bool) → is_over now w.1 ≡ c → live now (replace n None ws) ≡ replace n None (live now ws)
          → live now (cond b (replace n None ws) (w ∷ replace n None ws)) ≡ replace n None (cond (not c) (w ∷ live now ws) (live now ws))
      go true is true over rest = rest
      go true is false over rest = rest ∙ sym (ap (λ b. cond b (replace n None (live now ws)) (w ∷ replace n None (live now ws))) is)
      go false is true over rest = ap (λ c. cond (not c) (w ∷ live now (replace n None ws)) (live now (replace n None ws))) over ∙ rest
      go false is false over rest =
          ap (λ c. cond (not c) (w ∷ live now (replace n None ws)) (live now (replace n None ws))) over
          ∙ ap (λ (xs : Numbered). w ∷ xs) rest
          ∙ sym (ap (λ b. cond b (replace n None (live now ws)) (w ∷ replace n None (live now ws))) is)

  live_pushed : (ws : Numbered) (w : ℕ × Leased) → is_over now w.1 ≡ false → live now (ws ++ w ∷ []) ≡ live now ws ++ w ∷ []
  live_pushed [] w fresh = ap (λ c. cond (not c) (w ∷ []) []) fresh
  live_pushed (x ∷ xs) w fresh = go (is_over now x.1) (live_pushed xs w fresh)
    where
      go : (c : Bool) → live now (xs ++ w ∷ []) ≡ live now xs ++ w ∷ [] → cond (not c) (x ∷ live now (xs ++ w ∷ [])) (live now (xs ++ w ∷ [])) ≡ cond (not c) (x ∷ live now xs) (live now xs) ++ w ∷ []
      go true rest = rest
      go false rest = ap (λ (ys : Numbered). x ∷ ys) rest

  fresh_watch : is_over now (new_watch now) ≡ false
  fresh_watch = grind (arith, nat_tests)

  live_items : (f : Item → Item) (ws : Numbered) → live now (with_all_items f ws) ≡ with_all_items f (live now ws)
  live_items f [] = refl
  live_items f (w ∷ ws) = go (is_over now w.1) (live_items f ws)
    where
      go : (c : Bool) → live now (with_all_items f ws) ≡ with_all_items f (live now ws)
          → cond (not c) ((w.0, watching (map_all f w.1.items) w.1) ∷ live now (with_all_items f ws)) (live now (with_all_items f ws)) ≡ with_all_items f (cond (not c) (w ∷ live now ws) (live now ws))
      go true rest = rest
      go false rest = ap (λ (xs : Numbered). (w.0, watching (map_all f w.1.items) w.1) ∷ xs) rest

  live_none : (n : ℕ) (ws : Numbered) → lookup n ws ≡ None → lookup n (live now ws) ≡ None
  live_none n [] none = refl
  live_none n (w ∷ ws) none = go (w.0 == n) refl (is_over now w.1) none (live_none n ws)
    where
      go : (b : Bool) → (w.0 == n) ≡ b → (c : Bool) → cond b (Some w.1) (lookup n ws) ≡ None → (lookup n ws ≡ None → lookup n (live now ws) ≡ None) → lookup n (cond (not c) (w ∷ live now ws) (live now ws)) ≡ None
      go true is c none rest = absurd (let f : Some w.1 ≡ None = none in cc)
      go false is true none rest = rest none
      go false is false none rest = ap (λ b. cond b (Some w.1) (lookup n (live now ws))) is ∙ rest none

  live_replaced : (n : ℕ) (a : Leased) (ws : Numbered) (v : Leased) → IsDistinct nat_eq (numbers_of ws) → lookup n (live now ws) ≡ Some v → is_over now a ≡ false
      → live now (replace n (Some a) ws) ≡ replace n (Some a) (live now ws)
  live_replaced n a [] v distinct there fresh = refl
  live_replaced n a (w ∷ ws) v distinct there fresh = go (w.0 == n) refl (is_over now w.1) refl there (live_replaced n a ws v (IsDistinct-tail nat_eq w.0 (numbers_of ws) distinct))
    where
      none_there : (w.0 == n) ≡ true → lookup n ws ≡ None
      none_there is =
          let same : w.0 ≡ n = (Decides-eqb w.0 n).0 is in
          subst (λ k. lookup k ws ≡ None) same (elsewhere w.0 ws (IsDistinct-head nat_eq w.0 (numbers_of ws) distinct))

      go : (b : Bool) → (w.0 == n) ≡ b → (c : Bool) → is_over now w.1 ≡ c → lookup n (cond (not c) (w ∷ live now ws) (live now ws)) ≡ Some v
          → (lookup n (live now ws) ≡ Some v → is_over now a ≡ false → live now (replace n (Some a) ws) ≡ replace n (Some a) (live now ws))
          → live now ((w.0, cond b a w.1) ∷ replace n (Some a) ws) ≡ replace n (Some a) (cond (not c) (w ∷ live now ws) (live now ws))
      go true is true over there rest = absurd (let gone = live_none n ws (none_there is) in let f : None ≡ Some v = sym gone ∙ there in cc)
      go true is false over there rest =
          ap (λ c. cond (not c) ((w.0, a) ∷ live now (replace n (Some a) ws)) (live now (replace n (Some a) ws))) fresh
          ∙ ap (λ (xs : Numbered). (w.0, a) ∷ live now xs) (none_replaced n (Some a) ws (none_there is))
          ∙ ap (λ (xs : Numbered). (w.0, a) ∷ xs) (sym (none_replaced n (Some a) (live now ws) (live_none n ws (none_there is))))
          ∙ sym (ap (λ b. (w.0, cond b a w.1) ∷ replace n (Some a) (live now ws)) is)
      go false is true over there rest =
          ap (λ c. cond (not c) (w ∷ live now (replace n (Some a) ws)) (live now (replace n (Some a) ws))) over ∙ rest there fresh
      go false is false over there rest =
          ap (λ c. cond (not c) (w ∷ live now (replace n (Some a) ws)) (live now (replace n (Some a) ws))) over
          ∙ ap (λ (xs : Numbered). w ∷ xs) (rest (sym (ap (λ b. cond b (Some w.1) (lookup n (live now ws))) is) ∙ there) fresh)
          ∙ sym (ap (λ b. (w.0, cond b a w.1) ∷ replace n (Some a) (live now ws)) is)

-- the watch of a number is another after it was made one
found_again : (n : ℕ) (a v : Leased) (ws : Numbered) → lookup n ws ≡ Some v → lookup n (replace n (Some a) ws) ≡ Some a
found_again n a v [] there = absurd (let f : None ≡ Some v = there in cc)
found_again n a v (w ∷ ws) there = go (w.0 == n) there (found_again n a v ws)
  where
    go : (b : Bool) → cond b (Some w.1) (lookup n ws) ≡ Some v → (lookup n ws ≡ Some v → lookup n (replace n (Some a) ws) ≡ Some a) → cond b (Some (cond b a w.1)) (lookup n (replace n (Some a) ws)) ≡ Some a
    go true there rest = refl
    go false there rest = rest there

replaced_again : (n : ℕ) (a b : Leased) (ws : Numbered) → replace n (Some a) (replace n (Some b) ws) ≡ replace n (Some a) ws
replaced_again n a b [] = refl
replaced_again n a b (w ∷ ws) = go (w.0 == n) (replaced_again n a b ws)
  where
    go : (c : Bool) → replace n (Some a) (replace n (Some b) ws) ≡ replace n (Some a) ws → (w.0, cond c a (cond c b w.1)) ∷ replace n (Some a) (replace n (Some b) ws) ≡ (w.0, cond c a w.1) ∷ replace n (Some a) ws
    go true rest = ap (λ (xs : Numbered). (w.0, a) ∷ xs) rest
    go false rest = ap (λ (xs : Numbered). (w.0, w.1) ∷ xs) rest

changed_twice : (n : ℕ) (f g : Leased → Leased) (ws : Numbered) → at_number n f (at_number n g ws) ≡ at_number n (λ w. f (g w)) ws
changed_twice n f g ws = go (lookup n ws) refl
  where
    go : (o : Option Leased) → lookup n ws ≡ o → replace n (option_map f (lookup n (replace n (option_map g o) ws))) (replace n (option_map g o) ws) ≡ replace n (option_map (λ w. f (g w)) o) ws
    go None none =
        let same = none_replaced n None ws none in
        ap (λ (xs : Numbered). replace n (option_map f (lookup n xs)) xs) same
        ∙ ap (λ (o : Option Leased). replace n (option_map f o) ws) none
    go (Some v) there =
        ap (λ (o : Option Leased). replace n (option_map f o) (replace n (Some (g v)) ws)) (found_again n (g v) v ws there)
        ∙ replaced_again n (f (g v)) (g v) ws

pub lapses_commute : AllLapse
lapses_commute now = record {
  replaces = λ n w ws v distinct there fresh. live_replaced now n w ws v distinct there fresh;
  deletes = λ n ws. live_deleted now n ws;
  makes = λ table i. record { watches = live_pushed now table.watches (table.next, new_watch now) (fresh_watch now) i; next = table.next + 1 };
  items = λ f ws. live_items now f ws;
  twice = λ n f g ws. changed_twice n f g ws;
}
