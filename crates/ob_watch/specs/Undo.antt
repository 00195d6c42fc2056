-- What takes additions back.
use Rattle.std.specs.Prelude.{◌≡◌, ℕ, ◌≤◌, true, List, length, take}
use Rattle.std.specs.List.{AllByRecursion}
use Rattle.ob_watch.specs.declared.item.Item.{Item}
use Rattle.ob_watch.specs.Items.{has_text}
use Rattle.ob_watch.specs.Restoring.{restored}

-- how many items there were, and those that were replaced since, the oldest first
pub record Undo : Type 0 where
  pub before : ℕ
  pub replaced : List Item

-- the items are taken back to what they were
pub record Undoes (u : Undo) (items original : List Item) : Type 0 where
  pub back : take u.before (restored u.replaced items) ≡ original
  pub grown : u.before ≤ length items
  pub there : AllByRecursion (λ x. has_text items x.text ≡ true) u.replaced

-- what took the items back takes what is left back
abbrev pub StillUndoes : Undo → Undo → List Item → List Item → Type 0
StillUndoes undo undone items left = (original : List Item) → Undoes undo items original → Undoes undone left original
