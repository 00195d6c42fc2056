-- Which objects, histories and rules some notes are of.
use Rattle.std.specs.Prelude.{◌≡◌, ℕ, List, is_some}
use Rattle.std.specs.BTreeSet.{contains}
use Rattle.std.specs.Ordering.{nat_cmp}
use Rattle.ob_site_state.specs.declared.change.Change.{Change}
use Rattle.ob_site_settling.specs.declared.seen.Seen.{Seen}
use Rattle.ob_site_settling.specs.Telling.{first_noted, slot_noted, len_noted, status_noted}

-- a number is there where a note is of it
pub record HasSeen (notes : List Change) (seen : Seen) : Type 0 where
  pub nodes : (n : ℕ) → contains nat_cmp seen.nodes n ≡ is_some (first_noted (slot_noted n) notes)
  pub places : (n : ℕ) → contains nat_cmp seen.places n ≡ is_some (first_noted (len_noted n) notes)
  pub rules : (n : ℕ) → contains nat_cmp seen.rules n ≡ is_some (first_noted (status_noted n) notes)
