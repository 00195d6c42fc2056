use Rattle.ob_site_state.proofs.Equal.{same_test}
use Rattle.ob_site_state.proofs.slots.same_slot.Goals as goal

pub returns : goal.returns
returns c = same_test c.is_equal.result c.args.slot.now c.args.other.now (λ h. c.is_equal.ensures.0 h) (λ e. c.is_equal.ensures.1 e)
