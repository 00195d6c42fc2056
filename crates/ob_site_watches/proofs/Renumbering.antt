-- Steps counted anew change no flag.
use Rattle.std.proofs.Common.{ℕ, ◌≡◌, List, [], ◌∷◌, map, refl, ap₂}
use Rattle.std.specs.List.{AllByRecursion}
use Rattle.ob_history.specs.declared.records.Filter.{Filter}
use Rattle.ob_tree.specs.Trees.{Stamped}
use Rattle.ob_watching.specs.Watches.{ItemOf, WatchOf}
use Rattle.ob_watch.specs.declared.item.Item.{Item}
use Rattle.ob_watch.specs.Items.{Text, marked_anew}
use Rattle.ob_watch.specs.Flags.{anew, flags, flags_of}
use Rattle.ob_watch.specs.Marks.{IsMarkPast}
use Rattle.ob_watch.specs.Tables.{Leased, with_all_items}
use Rattle.ob_watch.proofs.LawLemmas.{reports_agree}
use Rattle.ob_site_watches.specs.Anew.{FlagsStayAnew}
use Rattle.ob_site_watches.specs.Tables.{AllItems}
use Rattle.ob_site_watches.proofs.Keeping.{marks_stay_past}
use Rattle.ob_site_watches.proofs.Stamping.{anew_past}

abbrev Flagged : Type 0
Flagged = ItemOf Text Text Filter

abbrev Watched : Type 0
Watched = WatchOf Text Text Filter

-- watches whose items are others have the flags that they had, where each item has
module _ (t u : Stamped) (f : Item → Item) (same : (i : Item) → flags u (f i) ≡ flags t i) where
  items_same : (items : List Item) → map (flags u) (map f items) ≡ map (flags t) items
  items_same [] = refl
  items_same (i ∷ items) = ap₂ (λ (x : Flagged) (xs : List Flagged). x ∷ xs) (same i) (items_same items)

  pub flags_same : (ws : List (ℕ × Leased)) → flags_of u (with_all_items f ws) ≡ flags_of t ws
  flags_same [] = refl
  flags_same (w ∷ ws) =
      ap₂ (λ (is : List Flagged) (vs : List (ℕ × Watched)). let v : Watched = record { lease = w.1.lease; touched = w.1.touched; items = is } in let e : ℕ × Watched = (w.0, v) in e ∷ vs)
      (items_same w.1.items) (flags_same ws)

marks_anew : (t : Stamped) (items : List Item) → AllByRecursion (IsMarkPast 1) (map (marked_anew t) items)
marks_anew t [] = tt
marks_anew t (i ∷ items) = (marks_stay_past.renumbers t i, marks_anew t items)

all_anew : (t : Stamped) (ws : List (ℕ × Leased)) → AllItems (IsMarkPast 1) (with_all_items (marked_anew t) ws)
all_anew t [] = tt
all_anew t (w ∷ ws) = (marks_anew t w.1.items, all_anew t ws)

pub flags_stay_anew : FlagsStayAnew
flags_stay_anew plan t ws = record {
  flags = flags_same t (anew t) (marked_anew t) (λ i. (reports_agree plan t []).renumbers i) ws;
  marks = all_anew t ws;
  stamps = anew_past t;
}
