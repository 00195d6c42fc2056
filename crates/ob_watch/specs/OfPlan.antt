-- The site of a plan.
use Rattle.ob_watching.specs.Sites.{Site}
use Rattle.ob_site_rules.specs.Locating.{locate}
use Rattle.ob_site_rules.specs.declared.plan.Plan.{Plan}
use Rattle.ob_site_rules.specs.Sites.{site}

abbrev pub of_plan : Plan → Site
of_plan plan = site locate plan
