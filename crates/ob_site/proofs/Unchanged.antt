-- A step that leaves the state as it is.
use Rattle.std.proofs.Common.{◌≡◌, ℕ, Bool, true, not, ◌||◌, List, [], ◌∷◌, map, refl, sym, ap, ap₂, ◌∙◌, subst}
use Rattle.ob_values.proofs.Bools.{or_false}
use Rattle.ob_object.specs.Object.{Object as Node}
use Rattle.ob_history.specs.declared.records.Filter.{Filter}
use Rattle.ob_tree.specs.Trees.{Stamped}
use Rattle.ob_watching.specs.Tables.{map_values}
use Rattle.ob_watching.specs.Watches.{TrackedOf, ItemOf, WatchOf, Object, Feed, World, ended, settled, settled_at, with_items}
use Rattle.ob_site_watches.specs.Known.{IsNumbered}
use Rattle.ob_site_watches.proofs.Keeping.{table_keeps}
use Rattle.ob_site_laws.proofs.Same.{object_decides}
use Rattle.ob_site_rules.specs.declared.request.Request.{Request}
use Rattle.ob_site_rules.specs.Build.{Path, Text}
use Rattle.ob_site_rules.specs.Sameness.{same_object}
use Rattle.ob_site_rules.specs.Sites.{watched_object}
use Rattle.ob_site_rules.specs.declared.plan.Plan.{Plan}
use Rattle.ob_site_rules.specs.State.{State, roll}
use Rattle.ob_site_rules.specs.Watched.{SiteTarget}
use Rattle.ob_site_settling.specs.Ending.{IsOwn}
use Rattle.ob_site_state.specs.Kept.{Kept}
use Rattle.ob_site_state.specs.Stamping.{tree_of}
use Rattle.ob_watch.specs.AsRules.{world_of}
use Rattle.ob_watch.specs.OfPlan.{of_plan}
use Rattle.ob_watch.specs.Flags.{flags_of}
use Rattle.ob_watch.specs.Marks.{IsMarkPast}
use Rattle.ob_watch.specs.Tables.{Table, lapsed_at}
use Rattle.ob_site.specs.Between.{HoldsBetweenSteps, IsBegun}
use Rattle.ob_site.specs.Steps.{IsQuiet, IsAnswered}

abbrev Flagged : Type 0
Flagged = ItemOf Text Path Filter

abbrev Watched : Type 0
Watched = WatchOf Text Path Filter

-- what a watch shows is the same as itself
itself : (o : Node) → same_object o o ≡ true
itself o = (object_decides o o).1 refl

module _ (plan : Plan) (s : State) where
  tracked_stays : (b : Bool) → b ≡ true → (k : TrackedOf Filter) → settled_at (of_plan plan) b k ≡ k
  tracked_stays b is (Object changed) = ap (λ (x : Bool). let k : TrackedOf Filter = Object (changed || not x) in k) is ∙ ap (λ (x : Bool). let k : TrackedOf Filter = Object x in k) (or_false changed)
  tracked_stays b is (Feed bounds given) = refl

  items_stay : (items : List Flagged) → map (settled (of_plan plan) s s) items ≡ items
  items_stay [] = refl
  items_stay (i ∷ items) =
      ap₂ (λ (k : TrackedOf Filter) (xs : List Flagged). let x : Flagged = record { text = i.text; path = i.path; tracked = k } in x ∷ xs)
      (tracked_stays (same_object (watched_object plan s i.path) (watched_object plan s i.path)) (itself (watched_object plan s i.path)) i.tracked) (items_stay items)

  watches_stay : (ws : List (ℕ × Watched)) → map_values (λ v. with_items (of_plan plan) v (map (settled (of_plan plan) s s) v.items)) ws ≡ ws
  watches_stay [] = refl
  watches_stay (w ∷ ws) =
      ap₂ (λ (is : List Flagged) (vs : List (ℕ × Watched)). let v : Watched = record { lease = w.1.lease; touched = w.1.touched; items = is } in let e : ℕ × Watched = (w.0, v) in e ∷ vs)
      (items_stay w.1.items) (watches_stay ws)

  abbrev world : ℕ → State → List (ℕ × Watched) → ℕ → World (of_plan plan)
  world time x ws next = record { time = time; site = x; watches = ws; next = next }

  -- where no history is above its capacity, the end of a step that changed nothing changes nothing
  pub ends_quietly : roll s ≡ s → (time : ℕ) (tree : Stamped) (t : Table) → ended (of_plan plan) s (world_of plan time s tree t) ≡ world_of plan time s tree t
  ends_quietly rolled time tree t =
      ap (λ (x : State). world time x (map_values (λ v. with_items (of_plan plan) v (map (settled (of_plan plan) s x) v.items)) (flags_of tree t.watches)) t.next) rolled
      ∙ ap (λ (ws : List (ℕ × Watched)). world time s ws t.next) (watches_stay (flags_of tree t.watches))

-- the state at the end of a quiet step
abbrev pub quiet : Kept → Kept
quiet k = record k { now = roll k.now; since = k.time; before = roll k.now }

module _ (k : Kept) (t u : Table) (r : Request) (target : SiteTarget) (o : Node) where
  -- so a request is answered that leaves the state as it is
  answered_so : roll k.now ≡ k.now → IsQuiet k t u r target o → HoldsBetweenSteps k.plan (roll k.now) k.stamps k.steps (lapsed_at k.time u) → IsAnswered k (quiet k) t (lapsed_at k.time u) r target o
  answered_so rolled is kept = record {
    plan = refl;
    time = refl;
    since = refl;
    before = refl;
    world =
        ap (λ (x : State). world_of k.plan k.time x (tree_of k) (lapsed_at k.time u)) rolled
        ∙ sym (ends_quietly k.plan k.now rolled k.time (tree_of k) (lapsed_at k.time u))
        ∙ ap (ended (of_plan k.plan) k.now) is.world;
    reply = is.reply;
    kept = kept;
  }

-- the watches whose lease has not run out
lapsed_kept : (plan : Plan) (s : State) (xs : List ℕ) (m now : ℕ) (u : Table) → HoldsBetweenSteps plan s xs m u → HoldsBetweenSteps plan s xs m (lapsed_at now u)
lapsed_kept plan s xs m now u kept = record {
  made = kept.made;
  points = kept.points;
  shallow = kept.shallow;
  long = kept.long;
  past = kept.past;
  own = (table_keeps (IsOwn s.tree)).lapses now u kept.own;
  marks = (table_keeps (IsMarkPast m)).lapses now u kept.marks;
  numbered = (table_keeps (IsNumbered plan)).lapses now u kept.numbered;
}

pub quietly : (k n : Kept) (t u x : Table) (r : Request) (target : SiteTarget) (o : Node) → IsBegun k t → IsQuiet k t u r target o → HoldsBetweenSteps k.plan k.now k.stamps k.steps u → n ≡ quiet k → x ≡ lapsed_at k.time u
    → IsAnswered k n t x r target o
quietly k n t u x r target o begun is kept state swept =
    subst (λ (y : Kept). IsAnswered k y t x r target o) (sym state)
    (subst (λ (y : Table). IsAnswered k (quiet k) t y r target o) (sym swept)
    (answered_so k t u r target o begun.rolled is
    (subst (λ (s : State). HoldsBetweenSteps k.plan s k.stamps k.steps (lapsed_at k.time u)) (sym begun.rolled) (lapsed_kept k.plan k.now k.stamps k.steps k.time u kept))))
