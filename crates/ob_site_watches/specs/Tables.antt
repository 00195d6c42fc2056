-- What holds of each item of all watches goes on holding, whatever becomes of the watches.
use Rattle.std.specs.Prelude.{◌≡◌, ℕ, List, Some, None}
use Rattle.std.specs.List.{AllByRecursion}
use Rattle.ob_watching.specs.Tables.{lookup, replace}
use Rattle.ob_site_rules.specs.declared.plan.Plan.{Plan}
use Rattle.ob_watch.specs.declared.item.Item.{Item}
use Rattle.ob_watch.specs.Items.{Text, put_item}
use Rattle.ob_watch.specs.Marks.{IsMarkPast}
use Rattle.ob_watch.specs.Tables.{Leased, Table, at_number, lapsed_at, with_all_items, with_new, without, yielded_at}
use Rattle.ob_site_watches.specs.Known.{IsNumbered}

-- a fact of each item of a watch
abbrev pub AllOf : (Item → Type 0) → Leased → Type 0
AllOf P w = AllByRecursion P w.items

-- a fact of each item of all watches
abbrev pub AllItems : (Item → Type 0) → List (ℕ × Leased) → Type 0
AllItems P ws = AllByRecursion (λ e. AllByRecursion P e.1.items) ws

-- A new watch has no items, and none comes from those that lapse or give way. Items that are changed have the fact where each change keeps
-- it. The watch of a number has it where all have; all have it with another watch there that has it, and without the watch; and
-- a watch has it without some of its items, and with one more that has it.
pub record TableKeeps (P : Item → Type 0) : Type 0 where
  pub makes : (now : ℕ) (table : Table) → AllItems P table.watches → AllItems P (with_new now table).watches
  pub lapses : (now : ℕ) (table : Table) → AllItems P table.watches → AllItems P (lapsed_at now table).watches
  pub yields : (now : ℕ) (table : Table) → AllItems P table.watches → AllItems P (yielded_at now table).watches
  pub changes : (f : Item → Item) → ((i : Item) → P i → P (f i)) → (ws : List (ℕ × Leased)) → AllItems P ws
      → AllItems P (with_all_items f ws)
  pub looks_up : (n : ℕ) (w : Leased) (ws : List (ℕ × Leased)) → AllItems P ws → lookup n ws ≡ Some w → AllOf P w
  pub replaces : (n : ℕ) (w : Leased) (ws : List (ℕ × Leased)) → AllItems P ws → AllOf P w → AllItems P (replace n (Some w) ws)
  pub deletes : (n : ℕ) (ws : List (ℕ × Leased)) → AllItems P ws → AllItems P (replace n None ws)
  pub changes_one : (n : ℕ) (f : Leased → Leased) → ((w : Leased) → AllOf P w → AllOf P (f w)) → (ws : List (ℕ × Leased))
      → AllItems P ws → AllItems P (at_number n f ws)
  pub removes : (texts : List Text) (w : Leased) → AllOf P w → AllOf P (without texts w)
  pub puts : (new : Item) (items : List Item) → P new → AllByRecursion P items → AllByRecursion P (put_item new items)

-- so of marks that are of no step to come
abbrev pub TablesKeepMarks : Type 0
TablesKeepMarks = (steps : ℕ) → TableKeeps (IsMarkPast steps)

-- so of the numbers of feeds
abbrev pub TablesKeepNumbers : Type 0
TablesKeepNumbers = (plan : Plan) → TableKeeps (IsNumbered plan)
