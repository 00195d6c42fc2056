-- What is asked of watches is what the whole site says.
use Rattle.std.specs.Prelude.{◌≡◌, List, [], Option}
use Rattle.ob_object.specs.Object.{Object}
use Rattle.ob_watching.specs.Watches.{firsts as firsts_of}
use Rattle.ob_site_rules.specs.Locating.{locate}
use Rattle.ob_site_rules.specs.declared.plan.Plan.{Plan}
use Rattle.ob_site_rules.specs.State.{State}
use Rattle.ob_site_rules.specs.Sites.{site}
use Rattle.ob_site_rules.specs.Watched.{Asked, lease_asked}
use Rattle.ob_requests.specs.Calls.{firsts, lease_in}

pub record IsAsRules (plan : Plan) : Type 0 where
  pub first_asked : (asked : List Asked) → firsts_of (site locate plan) [] asked ≡ firsts asked
  pub lease : (s : State) (input : Option Object) → lease_asked s input ≡ lease_in s.library input

abbrev pub AsRules : Type 0
AsRules = (plan : Plan) → IsAsRules plan
