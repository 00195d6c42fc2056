use Rattle.std.proofs.Common.{ap, ◌∙◌}
use Rattle.std.proofs.lemmas.Result.{IfOk-weaker}
use Rattle.ob_site_rules.specs.Locating.{locate}
use Rattle.ob_site_rules.specs.declared.plan.Plan.{Plan}
use Rattle.ob_site.proofs.step.path_of.Goals as goal

pub returns : goal.returns
returns c = IfOk-weaker c.locate_path.result _ _ (λ path is. is ∙ ap (λ (plan : Plan). locate plan.base c.args.request.now.target) c.plan.ensures) c.locate_path.ensures
