-- A site as the definitions have it.
use Rattle.std.specs.Prelude.{ℕ, max, List, []}
use Rattle.ob_tree.specs.Trees.{Stamped}
use Rattle.ob_site_rules.specs.State.{State}
use Rattle.ob_site_rules.specs.Sites.{SiteState}
use Rattle.ob_site_state.specs.Kept.{Kept}
use Rattle.ob_site_state.specs.Stamping.{tree_of}
use Rattle.ob_watch.specs.AsRules.{world_of}
use Rattle.ob_watch.specs.Tables.{Table}

-- The plan, the time and the state now; and of each watch the flags for which its marks stand beside the stamps of the own
-- objects.
abbrev pub site_of : Kept → Table → SiteState
site_of k t = record { plan = k.plan; world = world_of k.plan k.time k.now (tree_of k) t }

-- a site that stands opened, without watches; the first will have number 1
abbrev pub opened : Kept → SiteState
opened k = record { plan = k.plan; world = record { time = k.time; site = k.now; watches = []; next = 1 } }

-- a site without its watches, in which each number below this one may have been given
abbrev pub without_watches : SiteState → ℕ → SiteState
without_watches s below = record { plan = s.plan; world = record { time = s.world.time; site = s.world.site; watches = []; next = max s.world.next below } }

-- the own objects of a state with these stamps
abbrev pub tree_with : State → List ℕ → ℕ → Stamped
tree_with s stamps steps = record { root = s.tree; stamps = stamps; steps = steps }
