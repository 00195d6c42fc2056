use Rattle.std.proofs.Common.{Option, sym, ap, ◌∙◌, subst}
use Rattle.std.proofs.lemmas.Result.{IfOk-weaker}
use Rattle.ob_site_rules.specs.Build.{Path}
use Rattle.ob_site_rules.specs.Locating.{locate}
use Rattle.ob_site_rules.specs.Sites.{site}
use Rattle.ob_site_rules.specs.declared.plan.Plan.{Plan}
use Rattle.ob_site_rules.specs.Watched.{target_at}
use Rattle.ob_requests.specs.Targets.{IsTarget}
use Rattle.ob_site.proofs.step.target.Goals as goal

pub returns : goal.returns
returns c =
    IfOk-weaker c.target_at.result _ _
    (λ t is. subst (λ (plan : Plan). IsTarget t ((site locate plan).target c.args.request.now)) c.plan.ensures
    (subst (λ (p : Option Path). IsTarget t (target_at c.plan.result.now c.args.request.now p)) (c.requires ∙ ap (λ (plan : Plan). locate plan.base c.args.request.now.target) (sym c.plan.ensures)) is)) c.target_at.ensures
