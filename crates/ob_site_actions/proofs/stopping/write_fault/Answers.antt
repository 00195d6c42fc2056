use Rattle.std.proofs.Common.{◌≡◌, None, Option, subst}
use Rattle.std.specs.Prelude.{IfSome}
use Rattle.std.proofs.lemmas.Result.{IfOk-weaker}
use Rattle.ob_object.specs.Object.{Object}
use Rattle.ob_site_rules.specs.Writes.{given_by, value_fault, write_by}
use Rattle.ob_site_actions.specs.Targets.{IsRefused, IsTarget}
use Rattle.ob_site_actions.proofs.Targets.{write_refused}
use Rattle.ob_site_actions.proofs.stopping.write_fault.Goals as goal

pub body_fault-requires : goal.body_fault-requires
body_fault-requires g c =
    let k = c.args.state.now in
    let p = c.args.path.now in
    subst (λ (found : Option Object). IfSome found (λ o. IsTarget k.plan k.now p o)) c.in-Some.is c.in_ok-target.ensures

pub returns-in-Some : goal.returns-in-Some
returns-in-Some g c =
    let k = c.args.state.now in
    let p = c.args.path.now in
    let body = c.args.body.now in
    let t = c.in-Some.target in
    let is : IsTarget k.plan k.now p t = subst (λ (found : Option Object). IfSome found (λ o. IsTarget k.plan k.now p o)) c.in-Some.is c.in_ok-target.ensures in
    IfOk-weaker c.body_fault.result (λ f. f ≡ value_fault k.plan k.now k.time p t.head (given_by k.now body))
    (λ f. IfSome f (λ g. IsRefused k.plan k.now p (λ o. write_by k.plan k.now k.time p o None body) g)) (λ f e. write_refused k.plan k.now k.time p t body f is e) c.body_fault.ensures
