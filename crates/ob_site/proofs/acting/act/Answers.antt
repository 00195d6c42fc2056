use Rattle.std.proofs.Common.{ℕ, List, Option, ap, ◌∙◌, subst}
use Rattle.std.proofs.lemmas.Result.{IfOk-weaker}
use Rattle.ob_object.specs.Object.{Object}
use Rattle.ob_watch.specs.Tables.{lapsed_at}
use Rattle.ob_watching.specs.Tables.{numbers_of}
use Rattle.ob_site_rules.specs.Actions.{act_itself, act_located}
use Rattle.ob_site_rules.specs.Build.{Path}
use Rattle.ob_site_rules.specs.Locating.{locate}
use Rattle.ob_site_rules.specs.State.{State}
use Rattle.ob_site_actions.specs.Stops.{IsDone}
use Rattle.ob_site.proofs.acting.act.Goals as goal

pub returns-clause-done : goal.returns-clause-done
returns-clause-done g c =
    let k = c.args.state.now in
    let n = c.act_by.new.state in
    let r = c.args.request.now in
    let made : List ℕ → Option Path → State × Object = λ ns p. act_located locate k.plan k.now ns k.time r p in
    let numbers = c.in_ok-numbers.ensures k.plan k.now k.time c.args.path.now in
    IfOk-weaker c.act_by.result (IsDone k n (made c.deref.result.now c.args.path.now)) (IsDone k n (act_itself locate k.plan k.now (numbers_of (lapsed_at k.time c.args.watches.now).watches) r k.time))
    (λ o done. subst (λ (m : State × Object). IsDone k n m o) (ap (λ (ns : List ℕ). made ns c.args.path.now) c.deref.ensures.value ∙ numbers ∙ ap (made (numbers_of (lapsed_at k.time c.args.watches.now).watches)) c.requires) done) c.act_by.ensures.done
