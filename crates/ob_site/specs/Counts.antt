-- How many steps a request at a moment counts on a site: what it looks at and builds (oBIX 1.1, chapters 7 and 12).
use Rattle.std.specs.Prelude.{◌≡◌, ℕ}
use Rattle.ob_watching.specs.Operations.{OneWatch, PollChanges}
use Rattle.ob_watching.specs.Watches.{begun}
use Rattle.ob_site_rules.specs.declared.request.Request.{Request}
use Rattle.ob_site_rules.specs.Locating.{locate}
use Rattle.ob_site_rules.specs.Sites.{SiteState, site}
use Rattle.ob_site_watches.specs.Polls.{Takes}

-- from how many steps to how many: what is asked of the site as the step begins, at its moment, without the watches whose lease has
-- run out
abbrev pub RequestTakes : SiteState → Request → ℕ → ℕ → ℕ → Type 0
RequestTakes st r moment old new = Takes st.plan (begun (site locate st.plan) st.world moment) ((site locate st.plan).target r) old new

-- a request for what has changed of a watch
abbrev pub IsPoll : SiteState → Request → Type 0
IsPoll st r = (number : ℕ) × ((site locate st.plan).target r ≡ OneWatch number PollChanges)
