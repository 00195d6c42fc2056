-- Hrefs that are asked for, put into a watch one after the other (oBIX 1.1, chapter 12, Watch.add).
use Rattle.std.specs.Prelude.{◌≡◌, ℕ, List, map, Option, Some, None, option_and_then, Result, IfOk}
use Rattle.std.specs.declared.alloc.AllocError.{AllocError}
use Rattle.ob_object.specs.Object.{Object}
use Rattle.ob_watching.specs.Tables.{lookup}
use Rattle.ob_watching.specs.Watches.{Room, items_added, readings_added}
use Rattle.ob_site_rules.specs.Computed.{watch_out}
use Rattle.ob_site_rules.specs.Build.{Text}
use Rattle.ob_site_rules.specs.declared.fault.Fault.{Fault}
use Rattle.ob_site_rules.specs.declared.plan.Plan.{Plan}
use Rattle.ob_site_rules.specs.Replies.{entry}
use Rattle.ob_site_rules.specs.Watched.{Asked}
use Rattle.ob_site_state.specs.Kept.{Kept}
use Rattle.ob_site_state.specs.Stamping.{tree_of}
use Rattle.ob_watch.specs.Adding.{refusal}
use Rattle.ob_watch.specs.AsRules.{fault_of}
use Rattle.ob_watch.specs.declared.item.Item.{Item}
use Rattle.ob_watch.specs.OfPlan.{of_plan}
use Rattle.ob_watch.specs.Flags.{flags}
use Rattle.ob_watch.specs.Items.{put_item}
use Rattle.ob_watch.specs.Tables.{Leased, Table, at_number, holding, watching}
use Rattle.ob_watch.specs.Undo.{StillUndoes, Undo}
use Rattle.ob_site_watches.specs.declared.offering.Offer.{Offer}
use Rattle.ob_site_watches.specs.declared.offering.Offer.TheVariants as offer
use Rattle.ob_site_watches.specs.Entries.{reading_entry}
use Rattle.ob_site_watches.specs.Known.{AreSoundItems, IsPlacedBy}
use Rattle.ob_site_watches.specs.Offered.{refused_entry}

-- why an href can't be added to a watch beside which there is so much room, if it can't
abbrev pub refused_for : Plan → Room → Leased → Text → Option Fault
refused_for plan room w text = option_and_then (fault_of plan) (refusal room w text)

-- a watch with an item, unless it is refused
abbrev pub put_unless : Option Fault → Item → Leased → Leased
put_unless None item w = watching (put_item item w.items) w
put_unless (Some fault) item w = w

-- and the entry of that
abbrev pub entry_unless : Option Fault → Kept → Item → Object
entry_unless None k item = reading_entry k item
entry_unless (Some fault) k item = refused_entry item.text fault

-- a watch with what is offered: as it was where the href is refused
abbrev pub put_offer : Kept → Room → Offer → Leased → Leased
put_offer k room (offer.Item item) w = put_unless (refused_for k.plan room w item.text) item w
put_offer k room (offer.Refused o) w = w

-- and the entry of that
abbrev pub entry_put : Kept → Room → Offer → Leased → Object
entry_put k room (offer.Item item) w = entry_unless (refused_for k.plan room w item.text) k item
entry_put k room (offer.Refused o) w = o

-- an object that is offered is the own node of its path, and can be watched
abbrev pub IsPlaced : Kept → Offer → Type 0
IsPlaced k (offer.Item item) = IsPlacedBy k.now.tree item.path item.tracked
IsPlaced k (offer.Refused o) = Unit {0}

-- of the watch of a number, where one is held
abbrev pub OfHeld : ℕ → Table → (Leased → Type 0) → Type 0
OfHeld n table P = (w : Leased) → lookup n table.watches ≡ Some w → P w

-- The watches with another one of a number, in which only the items differ, and what takes them back.
pub record Grows (n : ℕ) (w left : Leased) (old new : Table) (undo undone : Undo) : Type 0 where
  pub table : new ≡ holding (at_number n (λ _. left) old.watches) old
  pub same : left ≡ watching left.items w
  pub back : StillUndoes undo undone w.items left.items

-- The watches after what is offered was put into the one of a number, and its entry; for want of memory some other items.
pub record IsPut (k : Kept) (n : ℕ) (room : Room) (o : Offer) (old new : Table) (undo undone : Undo) (result : Result Object AllocError) (w : Leased) : Type 0 where
  pub left : Leased
  pub grows : Grows n w left old new undo undone
  pub put : IfOk result (λ entry. (left ≡ put_offer k room o w) × (entry ≡ entry_put k room o w))

-- A watch with all that is asked for added, among watches of these numbers, which leave so much room, and the entries of that.
pub record HasAdded (k : Kept) (ns : List ℕ) (room : Room) (asked : List Asked) (w left : Leased) (es : List Object) : Type 0 where
  pub items : map (flags (tree_of k)) left.items ≡ items_added (of_plan k.plan) k.now ns room (map (flags (tree_of k)) w.items) asked
  pub entries : es ≡ map entry (readings_added (of_plan k.plan) k.now ns room (map (flags (tree_of k)) w.items) asked)
  pub known : AreSoundItems k w.items → AreSoundItems k left.items

-- The same of all that is asked for, and the WatchOut of the entries.
pub record ArePut (k : Kept) (ns : List ℕ) (room : Room) (asked : List Asked) (n : ℕ) (old new : Table) (undo undone : Undo) (result : Result Object AllocError) (w : Leased) : Type 0 where
  pub left : Leased
  pub grows : Grows n w left old new undo undone
  pub put : IfOk result (λ out. (es : List Object) × (HasAdded k ns room asked w left es × (out ≡ watch_out es)))

-- the watches after all that is asked for was put into the one of a number, and the WatchOut of the entries
pub record HasPut (k : Kept) (ns : List ℕ) (room : Room) (asked : List Asked) (n : ℕ) (old new : Table) (out : Object) (w : Leased) : Type 0 where
  pub left : Leased
  pub table : new ≡ holding (at_number n (λ _. left) old.watches) old
  pub same : left ≡ watching left.items w
  pub entries : List Object
  pub added : HasAdded k ns room asked w left entries
  pub reply : out ≡ watch_out entries
