use Rattle.std.proofs.Common.{sym, subst}
use Rattle.std.proofs.lemmas.Result.{IfOk-weaker}
use Rattle.ob_site_rules.specs.Locating.{locate}
use Rattle.ob_site_rules.specs.Sites.{site}
use Rattle.ob_site_rules.specs.Watched.{SiteTarget}
use Rattle.ob_requests.specs.declared.target.Target.{Target}
use Rattle.ob_requests.specs.Targets.{IsTarget}
use Rattle.ob_site.specs.Steps.{IsAnswered}
use Rattle.ob_site.proofs.step.answer.Goals as goal

pub returns-in-Nowhere-clause-done : goal.returns-in-Nowhere-clause-done
returns-in-Nowhere-clause-done g c =
    let k = c.args.state.now in
    let r = c.args.request.now in
    let meant = subst (λ (g : Target). IsTarget g ((site locate k.plan).target r)) c.in-Nowhere.is c.in_ok-target.ensures in
    IfOk-weaker c.to_nobody.result _ _
    (λ o done. subst (λ (g : SiteTarget). IsAnswered k c.to_nobody.new.state c.args.watches.now c.to_nobody.new.watches r g o) (sym meant) (done r)) c.to_nobody.ensures.done

pub returns-in-Beyond-clause-done : goal.returns-in-Beyond-clause-done
returns-in-Beyond-clause-done g c =
    let k = c.args.state.now in
    let r = c.args.request.now in
    let meant = subst (λ (g : Target). IsTarget g ((site locate k.plan).target r)) c.in-Beyond.is c.in_ok-target.ensures in
    IfOk-weaker c.to_no_watch.result _ _
    (λ o done. subst (λ (g : SiteTarget). IsAnswered k c.to_no_watch.new.state c.args.watches.now c.to_no_watch.new.watches r g o) (sym meant.3) (done r meant.0 meant.1 meant.2)) c.to_no_watch.ensures.done

pub returns-clause-done : goal.returns-clause-done
returns-clause-done g c =
    let k = c.args.state.now in
    let r = c.args.request.now in
    let meant = subst (λ (g : Target). IsTarget g ((site locate k.plan).target r)) c.in-OneWatch.is c.in_ok-target.ensures in
    IfOk-weaker c.to_watch.result _ _
    (λ o done. subst (λ (g : SiteTarget). IsAnswered k c.to_watch.new.state c.args.watches.now c.to_watch.new.watches r g o) (sym meant) (done r)) c.to_watch.ensures.done
