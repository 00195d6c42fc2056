use Rattle.std.proofs.Common.{◌≡◌, Option, ◌∙◌, subst}
use Rattle.std.specs.Prelude.{IfSome}
use Rattle.std.proofs.lemmas.Result.{IfOk-weaker}
use Rattle.ob_object.specs.Object.{Object}
use Rattle.ob_points.specs.Points.{suits, passes}
use Rattle.ob_site_actions.specs.Targets.{IsTarget}
use Rattle.ob_site_actions.proofs.Targets.{passes_by}
use Rattle.ob_site_actions.proofs.passing.passes.Goals as goal

pub returns-in-Some : goal.returns-in-Some
returns-in-Some g c =
    let k = c.args.state.now in
    let p = c.args.path.now in
    let v = c.args.value.now in
    let t = c.in-Some.target in
    let is : IsTarget k.plan k.now p t = subst (λ (found : Option Object). IfSome found (λ o. IsTarget k.plan k.now p o)) c.in-Some.is c.in_ok-target.ensures in
    IfOk-weaker c.suits.result (λ yes. yes ≡ suits k.plan k.now v t) (λ yes. yes ≡ passes k.plan k.now p v) (λ yes same. same ∙ passes_by k.plan k.now p v t is) c.suits.ensures
