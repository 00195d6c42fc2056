use Rattle.ob_io.proofs.TickLemmas.{told_step, told_lasts}
use Rattle.ob_io.proofs.clock.TickerClock.now.Goals as goal

pub returns-clause-gave : goal.returns-clause-gave
returns-clause-gave c = told_step _ _ _ _ _ _ _ c.step.ensures.same c.step.ensures.after c.step.ensures.value

pub returns-clause-lasting : goal.returns-clause-lasting
returns-clause-lasting c = told_lasts _ _ _ _ _ _ c.step.ensures.same c.step.ensures.after
