use Rattle.std.proofs.Common.{◌≡◌, subst}
use Rattle.std.specs.Prelude.{IfOk}
use Rattle.ob_kept.specs.Keeping.{Keeping, kept_act}
use Rattle.ob_kept.proofs.serving.SharedMachine.step.Goals as goal

pub returns-clause-done : goal.returns-clause-done
returns-clause-done g c =
    subst (λ (k : Keeping). IfOk c.step-reply.result (λ reply. kept_act k c.args.request.now c.args.moment ≡ (c.step-reply.new.self, reply))) c.self.view_is c.step-reply.ensures.done
