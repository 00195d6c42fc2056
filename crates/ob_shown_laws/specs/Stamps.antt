-- Watches that keep a number for each watched object in place of a flag: the number of the step after which it was last
-- reported, held against the number of the last step that changed what is shown there.
use Rattle.std.specs.Prelude.{◌≡◌, ℕ, ◌+◌, ◌≤◌, Bool, false, cond, not, List, filter, map, nat_lt}
use Rattle.std.specs.List.{AllByRecursion}
use Rattle.ob_watching.specs.Sites.{Site}
use Rattle.ob_watching.specs.Tables.{map_values}
use Rattle.ob_watching.specs.Watches.{TrackedOf, Object, Feed, ItemOf, WatchOf, count, settled, reported, with_items}
use Rattle.ob_site_rules.specs.Build.{Path}
use Rattle.ob_site_rules.specs.Locating.{locate}
use Rattle.ob_site_rules.specs.declared.plan.Plan.{Plan}
use Rattle.ob_site_rules.specs.State.{State, is_among}
use Rattle.ob_site_rules.specs.Sites.{site}
use Rattle.ob_shown_laws.specs.Alike.{row, DifferInValues}
use Rattle.ob_shown_laws.specs.Standing.{root_standing, standing_at}
use Rattle.ob_shown_laws.specs.Changed.{PathsDiffer, differs, reaches, AreTouched}
use Rattle.ob_shown_laws.specs.Looked.{IsLeft}

-- the number of the last step, and for each path the number of the last one that changed what a watch shows of it
pub record ClockOf (Path : Type 0) : Type 0 where
  pub steps : ℕ
  pub stamp : Path → ℕ

-- what is kept of a watched object is the number of the step after which it was last reported; of a feed its filter and how
-- many events were given
pub data MarkedOf (Filter : Type 0) : Type 0 where
  ObjectSince : (mark : ℕ) → MarkedOf Filter
  FeedSince : (filter : Filter) → (given : ℕ) → MarkedOf Filter

-- an item of a watch with its mark, and a watch of such items
pub record MarkedItemOf (Text Path Filter : Type 0) : Type 0 where
  pub text : Text
  pub path : Path
  pub marked : MarkedOf Filter

-- a watch whose items have marks: its lease, when it was asked last, and its items
pub record MarkedWatchOf (Text Path Filter : Type 0) : Type 0 where
  pub lease : ℕ
  pub touched : ℕ
  pub items : List (MarkedItemOf Text Path Filter)

-- one more step, which changed what is shown at these paths
abbrev pub ticked : {Path : Type 0} → (Path → Bool) → ClockOf Path → ClockOf Path
ticked changed c = record { steps = c.steps + 1; stamp = λ path. cond (changed path) (c.steps + 1) (c.stamp path) }

-- no stamp is of a step to come
abbrev pub AreStampsPast : {Path : Type 0} → ClockOf Path → Type 0
AreStampsPast {Path} c = (path : Path) → c.stamp path ≤ c.steps

-- a mark isn't of a step to come
abbrev pub IsMarkPast : {Filter : Type 0} → ℕ → MarkedOf Filter → Type 0
IsMarkPast steps (ObjectSince mark) = mark ≤ steps
IsMarkPast steps (FeedSince bounds given) = Unit {0}

module _ (m : Site) where
  -- stamps and marks of what this site shows
  abbrev pub Clock : Type 0
  Clock = ClockOf m.Path

  -- what is kept of an item of this site, by a mark
  abbrev pub Marked : Type 0
  Marked = MarkedOf m.Filter

  -- an item of this site, by a mark
  abbrev pub MarkedItem : Type 0
  MarkedItem = MarkedItemOf m.Text m.Path m.Filter

  -- a watch of this site, by marks
  abbrev pub MarkedWatch : Type 0
  MarkedWatch = MarkedWatchOf m.Text m.Path m.Filter

  -- no mark of these items is of a step to come
  abbrev pub AreMarksPast : ℕ → List MarkedItem → Type 0
  AreMarksPast steps items = AllByRecursion (λ x. IsMarkPast steps x.marked) items

  -- what an item stands for: an object has changed where its stamp is above its mark
  abbrev pub tracked : Clock → m.Path → Marked → TrackedOf m.Filter
  tracked c path (ObjectSince mark) = Object (nat_lt mark (c.stamp path))
  tracked c path (FeedSince bounds given) = Feed bounds given

  -- an item as its mark says by the clock
  abbrev pub item : Clock → MarkedItem → ItemOf m.Text m.Path m.Filter
  item c x = record { text = x.text; path = x.path; tracked = tracked c x.path x.marked }

  -- a watch as the marks of its items say by the clock
  abbrev pub watch : Clock → MarkedWatch → WatchOf m.Text m.Path m.Filter
  watch c v = record { lease = v.lease; touched = v.touched; items = map (item c) v.items }

  -- all watches so
  abbrev pub watches : Clock → List (ℕ × MarkedWatch) → List (ℕ × WatchOf m.Text m.Path m.Filter)
  watches c vs = map_values (watch c) vs

  -- everything of an item is reported after the last step
  abbrev pub report_marked : Clock → m.State → m.Path → Marked → Marked
  report_marked c s path (ObjectSince mark) = ObjectSince c.steps
  report_marked c s path (FeedSince bounds given) = FeedSince bounds (count m s path)

  -- an item, all of which has been reported
  abbrev pub reported_item : Clock → m.State → MarkedItem → MarkedItem
  reported_item c s x = record { text = x.text; path = x.path; marked = report_marked c s x.path x.marked }

  -- Counted anew: an item that is due has the mark 0, every other 1, and each stamp is 1.
  abbrev pub mark_anew : Clock → m.Path → Marked → Marked
  mark_anew c path (ObjectSince mark) = ObjectSince (cond (nat_lt mark (c.stamp path)) 0 1)
  mark_anew c path (FeedSince bounds given) = FeedSince bounds given

  -- an item whose mark says the same by the clock that begins anew
  abbrev pub item_anew : Clock → MarkedItem → MarkedItem
  item_anew c x = record { text = x.text; path = x.path; marked = mark_anew c x.path x.marked }

  -- the clock that begins anew: one step was taken, and each stamp is 1
  abbrev pub clock_anew : Clock
  clock_anew = record { steps = 1; stamp = λ path. 1 }

  -- the end of a step for watches with flags
  abbrev pub settled_watches : m.State → m.State → List (ℕ × WatchOf m.Text m.Path m.Filter)
      → List (ℕ × WatchOf m.Text m.Path m.Filter)
  settled_watches before after vs = map_values (λ v. with_items m v (map (settled m before after) v.items)) vs

  -- no mark of these watches is of a step to come
  abbrev pub AllMarksPast : ℕ → List (ℕ × MarkedWatch) → Type 0
  AllMarksPast steps vs = AllByRecursion (λ e. AreMarksPast steps e.1.items) vs

  -- a test of paths tells where two states show a watch something else
  abbrev pub TellsChanges : m.State → m.State → (m.Path → Bool) → Type 0
  TellsChanges before after changed = (path : m.Path) → m.same (m.shown before path) (m.shown after path) ≡ not (changed path)

-- the site of a plan, as watches see it
abbrev pub of_plan : Plan → Site
of_plan plan = site locate plan

-- What stamps and marks say is what flags say: after a step whose changes are told, after everything of an item was reported,
-- when an object is added, and when the steps are counted anew.
pub record StampsAreFlags (m : Site) : Type 0 where
  pub settles : (before after : m.State) (changed : m.Path → Bool) → TellsChanges m before after changed
      → (c : Clock m) (vs : List (ℕ × MarkedWatch m)) → AllMarksPast m c.steps vs
      → settled_watches m before after (watches m c vs) ≡ watches m (ticked changed c) vs
  pub reports : (s : m.State) (c : Clock m) → AreStampsPast c → (items : List (MarkedItem m))
      → map (reported m s) (map (item m c) items) ≡ map (item m c) (map (reported_item m c s) items)
  pub adds : (c : Clock m) → AreStampsPast c → (path : m.Path) → tracked m c path (ObjectSince c.steps) ≡ Object false
  pub renumbers : (c : Clock m) (items : List (MarkedItem m))
      → map (item m (clock_anew m)) (map (item_anew m c) items) ≡ map (item m c) items
  -- and no stamp and no mark is of a step to come
  pub stamps_stay : (changed : m.Path → Bool) (c : Clock m) → AreStampsPast c → AreStampsPast (ticked changed c)
  pub marks_stay : (c : Clock m) (vs : List (ℕ × MarkedWatch m)) → AllMarksPast m c.steps vs → AllMarksPast m (c.steps + 1) vs
  pub marks_now : (s : m.State) (c : Clock m) (items : List (MarkedItem m))
      → AreMarksPast m c.steps (map (reported_item m c s) items)
  pub marks_anew : (c : Clock m) (items : List (MarkedItem m)) → AreMarksPast m 1 (map (item_anew m c) items)

-- and so for the site of every plan
abbrev pub StampsTell : Type 0
StampsTell = (plan : Plan) → StampsAreFlags (of_plan plan)

-- A step that stamps the nodes which show themselves otherwise, and those round them, leaves what the rules of watches say.
abbrev pub StampsSettle : Type 0
StampsSettle = (plan : Plan) (s t : State) → DifferInValues s t
    → PathsDiffer (row (root_standing plan s).object)
    → (touched : List Path) → AreTouched plan s t touched
    → (c : Clock (of_plan plan)) (vs : List (ℕ × MarkedWatch (of_plan plan))) → AllMarksPast (of_plan plan) c.steps vs
    → settled_watches (of_plan plan) s t (watches (of_plan plan) c vs)
    ≡ watches (of_plan plan) (ticked (λ p. reaches touched (standing_at plan s p)) c) vs

-- The same for a step that looks at the nodes of some paths, which left every other path alone.
abbrev pub StepsSettle : Type 0
StepsSettle = (plan : Plan) (s t : State) → DifferInValues s t
    → PathsDiffer (row (root_standing plan s).object)
    → (looked : List Path) → ((p : Path) → is_among p looked ≡ false → IsLeft plan s t p)
    → (c : Clock (of_plan plan)) (vs : List (ℕ × MarkedWatch (of_plan plan))) → AllMarksPast (of_plan plan) c.steps vs
    → settled_watches (of_plan plan) s t (watches (of_plan plan) c vs)
    ≡ watches (of_plan plan) (ticked (λ p. reaches (filter (differs plan s t) looked) (standing_at plan s p)) c) vs
