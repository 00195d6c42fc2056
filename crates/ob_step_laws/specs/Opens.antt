-- What holds of the state that a document opens.
use Rattle.std.specs.Prelude.{◌≡◌, ℕ, ◌<◌, ◌^◌, [], All, Ok}
use Rattle.ob_object.specs.Object.{Object, parts}
use Rattle.ob_object.specs.WellFormed.{IsWellFormed}
use Rattle.ob_contracts.specs.Standard.{standard, with_added}
use Rattle.ob_alarms.specs.Limits.{IsRule}
use Rattle.ob_site_rules.specs.State.{numbered_from}
use Rattle.ob_site_rules.specs.Writes.{site_contracts}
use Rattle.ob_site_rules.specs.Sites.{SiteState}
use Rattle.ob_plain_state.specs.States.{AreCounted}
use Rattle.ob_site_rules.specs.Opening.{opening}
use Rattle.ob_step_laws.specs.Consistent.{IsConsistent}

-- The state is consistent; the limits of each rule are of one kind; the library is the built-in one with the contracts of the
-- kept tree, as a write makes it anew; and there are no alarms.
pub record IsOpened (st : SiteState) : Type 0 where
  pub consistent : IsConsistent st.plan st.world.site
  pub rules : All IsRule (numbered_from 0 st.plan.rules)
  pub library : st.world.site.library ≡ with_added standard (site_contracts st.world.site.tree)
  pub alarms : st.world.site.alarms ≡ []
  pub events : st.world.site.events ≡ []

-- So is each state that a document opens, where the events of its histories can be counted.
abbrev pub OpensConsistent : Type 0
OpensConsistent = (root : Object) (boot : ℕ) (st : SiteState) → IsWellFormed root → AreCounted st.world.site.logs → opening root boot ≡ Ok st → IsOpened st

-- They can where the parts of the document can: a record is a part.
abbrev pub OpensCounted : Type 0
OpensCounted = (root : Object) (boot : ℕ) (st : SiteState) → parts root < 2 ^ 63 → opening root boot ≡ Ok st → AreCounted st.world.site.logs
