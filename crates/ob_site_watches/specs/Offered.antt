-- An href that is asked for, before it is added.
use Rattle.std.specs.Prelude.{◌≡◌, ℕ, List, Result, Ok, Err}
use Rattle.ob_object.specs.Object.{Object}
use Rattle.ob_watching.specs.Operations.{Refuses}
use Rattle.ob_watching.specs.Watches.{Item as Flagged, Room, add_found, added}
use Rattle.ob_site_rules.specs.Build.{Text}
use Rattle.ob_site_rules.specs.Faults.{err}
use Rattle.ob_site_rules.specs.Locating.{locate}
use Rattle.ob_site_rules.specs.Replies.{Reading, entry}
use Rattle.ob_site_rules.specs.Sites.{found}
use Rattle.ob_site_rules.specs.Watched.{Asked, SiteFound}
use Rattle.ob_site_rules.specs.declared.fault.Fault.{Fault}
use Rattle.ob_site_state.specs.Kept.{Kept}
use Rattle.ob_site_state.specs.Stamping.{tree_of}
use Rattle.ob_watch.specs.declared.item.Item.{Item}
use Rattle.ob_watch.specs.OfPlan.{of_plan}
use Rattle.ob_watch.specs.Flags.{flags}
use Rattle.ob_site_watches.specs.declared.offering.Offer.{Offer}
use Rattle.ob_site_watches.specs.declared.offering.Offer.TheVariants as offer
use Rattle.ob_site_watches.specs.Known.{IsSoundItem}

-- what adding what is found under a text is, whatever room and items there are: adding this item
pub record IsItemFor (k : Kept) (text : Text) (f : SiteFound) (item : Item) : Type 0 where
  pub adds : (room : Room) (items : List (Flagged (of_plan k.plan))) → add_found (of_plan k.plan) k.now room items text f ≡ added (of_plan k.plan) k.now room items (flags (tree_of k) item)
  pub known : IsSoundItem k item

-- or leaving them, with this refusal
abbrev pub IsRefusedFor : Kept → Text → SiteFound → Fault → Type 0
IsRefusedFor k text f fault =
    (room : Room) (items : List (Flagged (of_plan k.plan))) → add_found (of_plan k.plan) k.now room items text f ≡ (items, record { text = text; content = Refuses (err fault) })

abbrev pub IsFor : Kept → Text → SiteFound → Result Item Fault → Type 0
IsFor k text f (Ok item) = IsItemFor k text f item
IsFor k text f (Err fault) = IsRefusedFor k text f fault

-- the items are left, and this is the entry
abbrev pub IsLeft : {I : Type 0} → List I → List I × Reading → Object → Type 0
IsLeft items done o = (done.0 ≡ items) × (entry done.1 ≡ o)

-- the entry of an href that is refused
abbrev pub refused_entry : Text → Fault → Object
refused_entry text fault = entry (record { text = text; content = Refuses (err fault) })

-- what it is to be added as
abbrev pub IsOffered : Kept → List ℕ → Asked → Offer → Type 0
IsOffered k numbers asked (offer.Item item) = IsItemFor k asked.0 (found locate k.plan k.now numbers asked.0 asked.1) item
IsOffered k numbers asked (offer.Refused o) =
    (room : Room) (items : List (Flagged (of_plan k.plan))) → IsLeft items (add_found (of_plan k.plan) k.now room items asked.0 (found locate k.plan k.now numbers asked.0 asked.1)) o
