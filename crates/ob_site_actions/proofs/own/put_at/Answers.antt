use Rattle.std.proofs.Common.{Option, subst}
use Rattle.std.specs.Prelude.{IfSome}
use Rattle.ob_object.specs.Object.{Object}
use Rattle.ob_site_actions.specs.Targets.{IsTarget}
use Rattle.ob_site_actions.proofs.own.put_at.Goals as goal

pub put_shown-requires-clause-asked : goal.put_shown-requires-clause-asked
put_shown-requires-clause-asked g c = subst (λ (found : Option Object). IfSome found (λ o. IsTarget c.args.state.now.plan c.args.state.now.now c.args.path.now o)) c.in-Some.is c.in_ok-own.ensures
