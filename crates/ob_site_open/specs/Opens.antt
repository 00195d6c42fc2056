-- The state in place of a site that was just opened.
use Rattle.std.specs.Prelude.{◌≡◌, ℕ, replicate, Ok}
use Rattle.ob_object.specs.Object.{Object, parts}
use Rattle.ob_object.specs.WellFormed.{IsWellFormed}
use Rattle.ob_site_rules.specs.Sites.{SiteState}
use Rattle.ob_site_rules.specs.Opening.{opening}
use Rattle.ob_site_state.specs.Kept.{Kept}

-- a site of which no step has changed anything yet: what is before is what is now, and nothing was touched
abbrev pub just_opened : SiteState → Kept
just_opened st = record {
  plan = st.plan;
  time = st.world.time;
  now = st.world.site;
  since = st.world.time;
  before = st.world.site;
  stamps = replicate (parts st.world.site.tree) 0;
  steps = 0;
}

-- a site that some root opens at some moment
pub record IsFromRoot (site : SiteState) : Type 0 where
  pub root : Object
  pub boot : ℕ
  pub well_formed : IsWellFormed root
  pub opens : opening root boot ≡ Ok site

-- the state of the site that a root opens at a moment
pub record Opens (root : Object) (boot : ℕ) (state : Kept) : Type 0 where
  pub site : SiteState
  pub opens : opening root boot ≡ Ok site
  pub is : state ≡ just_opened site
