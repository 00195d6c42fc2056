-- How much a site stores. A write, or an acknowledgement, that would bring it over 1,000,000 records and alarm events is refused.
use Rattle.std.specs.Prelude.{◌≡◌, ℕ, ◌≤◌, List, Ok}
use Rattle.ob_machine.specs.History.{after}
use Rattle.ob_object.specs.Object.{Object}
use Rattle.ob_site_rules.specs.Opening.{opening}
use Rattle.ob_site_rules.specs.State.{State, board}
use Rattle.ob_site_rules.specs.declared.plan.Plan.{Plan}
use Rattle.ob_site_rules.specs.Sites.{SiteState}
use Rattle.ob_site_rules.specs.Writes.{stored}
use Rattle.ob_site_laws.specs.SiteLaws.{acts, Call}

-- no more records and alarm events are stored than may be
abbrev pub StoresFew : Plan → State → Type 0
StoresFew plan s = stored s.logs (board plan s) ≤ 1_000_000

-- So it is in every state that calls lead to from such a one.
abbrev pub StoredStays : Type 0
StoredStays = (start : SiteState) → StoresFew start.plan start.world.site → (es : List Call) →
    StoresFew (after acts start es).plan (after acts start es).world.site

-- So it is in every state that calls lead to from one that a document opens.
abbrev pub OpenedStoresFew : Type 0
OpenedStoresFew = (root : Object) (boot : ℕ) (st : SiteState) → opening root boot ≡ Ok st → (es : List Call) →
    StoresFew (after acts st es).plan (after acts st es).world.site
