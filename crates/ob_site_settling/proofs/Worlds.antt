-- The end of a step on all watches.
use Rattle.std.proofs.Common.{ℕ, ◌≡◌, List, [], ◌∷◌, map, refl, ap, ap₂}
use Rattle.std.specs.List.{AllByRecursion}
use Rattle.ob_history.specs.declared.records.Filter.{Filter}
use Rattle.ob_site_rules.specs.declared.plan.Plan.{Plan}
use Rattle.ob_site_rules.specs.State.{State, roll}
use Rattle.ob_tree.specs.Trees.{Stamped}
use Rattle.ob_watching.specs.Tables.{map_values}
use Rattle.ob_watching.specs.Watches.{ItemOf, WatchOf, settled, with_items}
use Rattle.ob_watch.specs.declared.item.Item.{Item}
use Rattle.ob_watch.specs.Items.{Text}
use Rattle.ob_watch.specs.OfPlan.{of_plan}
use Rattle.ob_watch.specs.Flags.{flags, flags_of}
use Rattle.ob_watch.specs.Marks.{IsMarkPast}
use Rattle.ob_watch.specs.Tables.{Leased, Table}
use Rattle.ob_site_state.specs.Stamping.{after_step}
use Rattle.ob_site_settling.specs.Ending.{IsOwn, Settles}
use Rattle.ob_site_settling.specs.Worlds.{AllOwn, AllMarksPast, WorldEnds, WorldsEnd}
use Rattle.ob_site_settling.proofs.Ends.{steps_end}

-- an item, and a watch, with flags
abbrev Flagged : Type 0
Flagged = ItemOf Text Text Filter

abbrev Watched : Type 0
Watched = WatchOf Text Text Filter

module _ (plan : Plan) (s t : State) (ns : List ℕ) (tree : Stamped) (ends : Settles plan s t ns tree) where
  items_end : (items : List Item) → AllByRecursion (IsOwn s.tree) items → AllByRecursion (IsMarkPast tree.steps) items
      → map (settled (of_plan plan) s t) (map (flags tree) items) ≡ map (flags (after_step ns tree)) items
  items_end [] own past = refl
  items_end (i ∷ items) own past = ap₂ (λ (x : Flagged) (xs : List Flagged). x ∷ xs) (ends.settles i own.0 past.0) (items_end items own.1 past.1)

  watches_end : (ws : List (ℕ × Leased)) → AllOwn s.tree ws → AllMarksPast tree.steps ws
      → map_values (λ v. with_items (of_plan plan) v (map (settled (of_plan plan) s t) v.items)) (flags_of tree ws) ≡ flags_of (after_step ns tree) ws
  watches_end [] own past = refl
  watches_end (w ∷ ws) own past =
      ap₂ (λ (is : List Flagged) (vs : List (ℕ × Watched)). let v : Watched = record { lease = w.1.lease; touched = w.1.touched; items = is } in let e : ℕ × Watched = (w.0, v) in e ∷ vs)
      (items_end w.1.items own.0 past.0) (watches_end ws own.1 past.1)

  marks_end : (items : List Item) → AllByRecursion (IsMarkPast tree.steps) items → AllByRecursion (IsMarkPast (after_step ns tree).steps) items
  marks_end [] past = tt
  marks_end (i ∷ items) past = (ends.marks i past.0, marks_end items past.1)

  all_marks : (ws : List (ℕ × Leased)) → AllMarksPast tree.steps ws → AllMarksPast (after_step ns tree).steps ws
  all_marks [] past = tt
  all_marks (w ∷ ws) past = (marks_end w.1.items past.0, all_marks ws past.1)

-- where each item is as the rules of watches have it, all watches are
pub world_ends : (plan : Plan) (s u : State) (ns : List ℕ) (tree : Stamped) (table : Table) → Settles plan s (roll u) ns tree → AllOwn s.tree table.watches → AllMarksPast tree.steps table.watches
    → WorldEnds plan s u ns tree table
world_ends plan s u ns tree table ends own past = record {
  ends = λ time.
      ap (λ (vs : List (ℕ × Watched)). record { time = time; site = roll u; watches = vs; next = table.next })
      (watches_end plan s (roll u) ns tree ends table.watches own past);
  marks = all_marks plan s (roll u) ns tree ends table.watches past;
}

pub worlds_end : WorldsEnd
worlds_end plan s u values differ ns changed tree root long table own past =
    world_ends plan s u ns tree table (steps_end plan s (roll u) values differ ns changed tree root long) own past
