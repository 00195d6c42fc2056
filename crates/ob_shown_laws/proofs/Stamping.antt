-- Stamps and marks say what flags say.
use Rattle.std.proofs.Common.{◌≡◌, ℕ, ◌+◌, ◌≤◌, Bool, true, false, cond, not, ◌||◌, List, [], ◌∷◌, filter, map, refl, sym, ap, ap₂, ◌∙◌, arith}
use Rattle.std.specs.Prelude.{nat_lt}
use Rattle.std.proofs.lemmas.Bool.Decides.{nat_tests}
use Rattle.ob_watching.specs.Sites.{Site}
use Rattle.ob_watching.specs.Watches.{TrackedOf, Object, ItemOf, WatchOf, settled, settled_at, reported, reported_now}
use Rattle.ob_shown_laws.specs.Standing.{standing_at}
use Rattle.ob_shown_laws.specs.Changed.{differs, reaches}
use Rattle.ob_shown_laws.specs.Stamps.{ObjectSince, FeedSince, ticked, AreStampsPast, IsMarkPast, Clock, Marked, MarkedItem, MarkedWatch, AreMarksPast, tracked, item, watches, report_marked, reported_item, mark_anew, item_anew, clock_anew, settled_watches, AllMarksPast, TellsChanges, of_plan, StampsTell, StampsSettle, StepsSettle}
use Rattle.ob_shown_laws.proofs.Reaching.{changes_reach}
use Rattle.ob_shown_laws.proofs.Looking.{looking}

-- a mark is below the next step, and not below what isn't after it
below_next : (mark steps : ℕ) → mark ≤ steps → nat_lt mark (steps + 1) ≡ true
below_next mark steps le = grind (arith, nat_tests)

none_due : (stamp steps : ℕ) → stamp ≤ steps → nat_lt steps stamp ≡ false
none_due stamp steps le = grind (arith, nat_tests)

module _ (m : Site) where
  due_then : (b : Bool) (mark stamp steps : ℕ) → mark ≤ steps → nat_lt mark (cond b (steps + 1) stamp) ≡ (nat_lt mark stamp || b)
  due_then true mark stamp steps le = below_next mark steps le ∙ sym (or_true (nat_lt mark stamp))
    where
      or_true : (a : Bool) → (a || true) ≡ true
      or_true true = refl
      or_true false = refl
  due_then false mark stamp steps le = sym (or_false (nat_lt mark stamp))
    where
      or_false : (a : Bool) → (a || false) ≡ a
      or_false true = refl
      or_false false = refl

  not_not : (b : Bool) → not (not b) ≡ b
  not_not true = refl
  not_not false = refl

  tracked_on : (changed : m.Path → Bool) (c : Clock m) (path : m.Path) (same : Bool) → same ≡ not (changed path) → (k : Marked m) → IsMarkPast c.steps k
      → settled_at m same (tracked m c path k) ≡ tracked m (ticked changed c) path k
  tracked_on changed c path same e (ObjectSince mark) past =
      ap (λ b. Object (nat_lt mark (c.stamp path) || not b)) e
      ∙ ap (λ b. Object (nat_lt mark (c.stamp path) || b)) (not_not (changed path))
      ∙ ap (λ b. Object b) (sym (due_then (changed path) mark (c.stamp path) c.steps past))
  tracked_on changed c path same e (FeedSince bounds given) past = refl

  items_on : (before after : m.State) (changed : m.Path → Bool) (tells : TellsChanges m before after changed) (c : Clock m) (xs : List (MarkedItem m)) → AreMarksPast m c.steps xs
      → map (settled m before after) (map (item m c) xs) ≡ map (item m (ticked changed c)) xs
  items_on before after changed tells c [] past = refl
  items_on before after changed tells c (x ∷ xs) past =
      ap₂ (λ (t : TrackedOf m.Filter) (ys : List (ItemOf m.Text m.Path m.Filter)). record { text = x.text; path = x.path; tracked = t } ∷ ys)
      (tracked_on changed c x.path _ (tells x.path) x.marked past.0)
      (items_on before after changed tells c xs past.1)

  watches_on : (before after : m.State) (changed : m.Path → Bool) (tells : TellsChanges m before after changed) (c : Clock m) (vs : List (ℕ × MarkedWatch m)) → AllMarksPast m c.steps vs
      → settled_watches m before after (watches m c vs) ≡ watches m (ticked changed c) vs
  watches_on before after changed tells c [] past = refl
  watches_on before after changed tells c (v ∷ vs) past =
      ap₂ (λ (items : List (ItemOf m.Text m.Path m.Filter)) (ws : List (ℕ × WatchOf m.Text m.Path m.Filter)). (v.0, record { lease = v.1.lease; touched = v.1.touched; items = items }) ∷ ws)
      (items_on before after changed tells c v.1.items past.0)
      (watches_on before after changed tells c vs past.1)

  tracked_now : (s : m.State) (c : Clock m) → AreStampsPast c → (path : m.Path) (k : Marked m) → reported_now m s path (tracked m c path k) ≡ tracked m c path (report_marked m c s path k)
  tracked_now s c past path (ObjectSince mark) = ap (λ b. Object b) (sym (none_due (c.stamp path) c.steps (past path)))
  tracked_now s c past path (FeedSince bounds given) = refl

  items_now : (s : m.State) (c : Clock m) → AreStampsPast c → (xs : List (MarkedItem m)) → map (reported m s) (map (item m c) xs) ≡ map (item m c) (map (reported_item m c s) xs)
  items_now s c past [] = refl
  items_now s c past (x ∷ xs) =
      ap₂ (λ (t : TrackedOf m.Filter) (ys : List (ItemOf m.Text m.Path m.Filter)). record { text = x.text; path = x.path; tracked = t } ∷ ys)
      (tracked_now s c past x.path x.marked) (items_now s c past xs)

  tracked_anew : (c : Clock m) (path : m.Path) (k : Marked m) → tracked m (clock_anew m) path (mark_anew m c path k) ≡ tracked m c path k
  tracked_anew c path (ObjectSince mark) = ap (λ b. Object b) (go (nat_lt mark (c.stamp path)))
    where
      go : (b : Bool) → nat_lt (cond b 0 1) 1 ≡ b
      go true = refl
      go false = refl
  tracked_anew c path (FeedSince bounds given) = refl

  all_anew : (c : Clock m) (xs : List (MarkedItem m)) → map (item m (clock_anew m)) (map (item_anew m c) xs) ≡ map (item m c) xs
  all_anew c [] = refl
  all_anew c (x ∷ xs) =
      ap₂ (λ (t : TrackedOf m.Filter) (ys : List (ItemOf m.Text m.Path m.Filter)). record { text = x.text; path = x.path; tracked = t } ∷ ys)
      (tracked_anew c x.path x.marked) (all_anew c xs)

  stamps_then : (changed : m.Path → Bool) (c : Clock m) → AreStampsPast c → AreStampsPast (ticked changed c)
  stamps_then changed c past path = go (changed path)
    where
      go : (b : Bool) → cond b (c.steps + 1) (c.stamp path) ≤ c.steps + 1
      go true = omega arith
      go false = omega (arith, past path)

  mark_later : (steps : ℕ) (k : Marked m) → IsMarkPast steps k → IsMarkPast (steps + 1) k
  mark_later steps (ObjectSince mark) past = omega (arith, past)
  mark_later steps (FeedSince bounds given) past = tt

  items_later : (steps : ℕ) (xs : List (MarkedItem m)) → AreMarksPast m steps xs → AreMarksPast m (steps + 1) xs
  items_later steps [] past = tt
  items_later steps (x ∷ xs) past = (mark_later steps x.marked past.0, items_later steps xs past.1)

  all_later : (steps : ℕ) (vs : List (ℕ × MarkedWatch m)) → AllMarksPast m steps vs → AllMarksPast m (steps + 1) vs
  all_later steps [] past = tt
  all_later steps (v ∷ vs) past = (items_later steps v.1.items past.0, all_later steps vs past.1)

  items_past : (s : m.State) (c : Clock m) (xs : List (MarkedItem m)) → AreMarksPast m c.steps (map (reported_item m c s) xs)
  items_past s c [] = tt
  items_past s c (x ∷ xs) = (go x.marked, items_past s c xs)
    where
      go : (k : Marked m) → IsMarkPast c.steps (report_marked m c s x.path k)
      go (ObjectSince mark) = omega arith
      go (FeedSince bounds given) = tt

  past_anew : (c : Clock m) (xs : List (MarkedItem m)) → AreMarksPast m 1 (map (item_anew m c) xs)
  past_anew c [] = tt
  past_anew c (x ∷ xs) = (go x.marked, past_anew c xs)
    where
      if_due : (b : Bool) → cond b 0 1 ≤ 1
      if_due true = omega arith
      if_due false = omega arith

      go : (k : Marked m) → IsMarkPast 1 (mark_anew m c x.path k)
      go (ObjectSince mark) = if_due (nat_lt mark (c.stamp x.path))
      go (FeedSince bounds given) = tt

pub stamps_tell : StampsTell
stamps_tell plan = record {
  settles = λ before after changed tells c vs past. watches_on (of_plan plan) before after changed tells c vs past;
  reports = λ s c past items. items_now (of_plan plan) s c past items;
  adds = λ c past path. ap (λ b. Object b) (none_due (c.stamp path) c.steps (past path));
  renumbers = λ c items. all_anew (of_plan plan) c items;
  stamps_stay = λ changed c past. stamps_then (of_plan plan) changed c past;
  marks_stay = λ c vs past. all_later (of_plan plan) c.steps vs past;
  marks_now = λ s c items. items_past (of_plan plan) s c items;
  marks_anew = λ c items. past_anew (of_plan plan) c items;
}

pub stamps_settle : StampsSettle
stamps_settle plan s t values paths touched are c vs past =
    watches_on (of_plan plan) s t (λ p. reaches touched (standing_at plan s p)) (changes_reach plan s t values paths touched are) c vs past

pub steps_settle : StepsSettle
steps_settle plan s t values paths looked left c vs past =
    stamps_settle plan s t values paths (filter (differs plan s t) looked) (looking plan s t values looked left) c vs past
