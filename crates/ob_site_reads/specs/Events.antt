-- What is reported of the events of feeds.
use Rattle.std.specs.Prelude.{ℕ, zero, List, [], Option, Some, None}
use Rattle.ob_object.specs.Object.{Object}
use Rattle.ob_watching.specs.Operations.{Lists}
use Rattle.ob_site_rules.specs.Build.{Path}
use Rattle.ob_site_rules.specs.declared.plan.Plan.{Plan}
use Rattle.ob_site_rules.specs.Replies.{content_object}
use Rattle.ob_site_rules.specs.Watched.{feed_there}

-- a feed where events rolled off unreported, or some are given
abbrev pub feed_of_some : Plan → Path → ℕ → List Object → Option Object
feed_of_some plan path zero [] = None
feed_of_some plan path dropped es = Some (content_object (Lists (feed_there plan path) dropped es))
