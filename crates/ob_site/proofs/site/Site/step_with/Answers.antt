use Rattle.std.proofs.Common.{◌∙◌, sym, subst, ap}
use Rattle.std.proofs.lemmas.Result.{IfOk-weaker, on_ok_weaker, on_err_weaker}
use Rattle.ob_site_rules.specs.Sites.{SiteState}
use Rattle.ob_site.specs.Counts.{IsPoll, RequestTakes}
use Rattle.ob_site.specs.Keeping.{Keeps, MayKeep, stepping}
use Rattle.ob_site.specs.Views.{site_of}
use Rattle.ob_site.proofs.Stepped.{left_so}
use Rattle.ob_site.proofs.site.Site.step_with.Goals as goal

pub invariant_of-self : goal.invariant_of-self
invariant_of-self g c = c.step.ensures.kept

pub returns-clause-done : goal.returns-clause-done
returns-clause-done g c =
    IfOk-weaker c.step.result _ _
    (λ o is.
    left_so c.args.self.now (site_of c.self.inside.state c.self.inside.watches) (site_of c.step.new.state c.step.new.watches) c.args.request.now c.args.moment o is c.self.view_is) c.step.ensures.done

pub returns-clause-refused : goal.returns-clause-refused
returns-clause-refused g c = on_err_weaker c.step.result (λ e. e ∙ c.self.view_is) c.step.ensures.refused

pub returns-clause-keeps : goal.returns-clause-keeps
returns-clause-keeps g c =
    on_ok_weaker c.step.result
    (subst (λ (st : SiteState). Keeps g.K.Keeper.below g.K.Keeper.keeps c.args.keeper.now c.step.new.keeper (stepping st c.args.request.now c.args.moment)) c.self.view_is)
    c.step.ensures.keeps

pub returns-clause-may_keep : goal.returns-clause-may_keep
returns-clause-may_keep g c =
    on_err_weaker c.step.result
    (subst (λ (st : SiteState). MayKeep g.K.Keeper.below g.K.Keeper.may_keep c.args.keeper.now c.step.new.keeper (stepping st c.args.request.now c.args.moment)) c.self.view_is)
    c.step.ensures.may_keep

pub returns-clause-steps : goal.returns-clause-steps
returns-clause-steps g c =
    IfOk-weaker c.step.result _ _
    (λ o. subst (λ (st : SiteState). RequestTakes st c.args.request.now c.args.moment c.args.steps.now c.step.new.steps) c.self.view_is) c.step.ensures.steps

pub returns-clause-polls : goal.returns-clause-polls
returns-clause-polls g c =
    IfOk-weaker c.step.result _ _
    (λ o few poll. few (subst (λ (st : SiteState). IsPoll st c.args.request.now) (sym c.self.view_is) poll)) c.step.ensures.polls
