-- When a request is answered alike whichever watches stand.
use Rattle.std.specs.Prelude.{◌≡◌, ℕ, List, Option}
use Rattle.ob_site_rules.specs.declared.plan.Plan.{Plan}
use Rattle.ob_site_rules.specs.declared.request.Request.{Request}
use Rattle.ob_site_rules.specs.Actions.{act_located}
use Rattle.ob_site_rules.specs.Build.{Path}
use Rattle.ob_site_rules.specs.Locating.{locate}
use Rattle.ob_site_rules.specs.State.{State}

-- what a request makes of a site, and its reply, are the same with these numbers of watches and with those
abbrev pub AnswersAlike : Request → List ℕ → List ℕ → Type 0
AnswersAlike r ns ks = (plan : Plan) (s : State) (now : ℕ) (p : Option Path) → act_located locate plan s ns now r p ≡ act_located locate plan s ks now r p
