use Rattle.ob_io.proofs.TickLemmas.{told_step, told_lasts}
use Rattle.ob_io.proofs.mem_clock.MemClockClock.now.Goals as goal

pub returns-clause-gave : goal.returns-clause-gave
returns-clause-gave c =
    let t = c.args.self.now.ticker in
    let u = c.step.new.self in
    told_step t.at t.tick t.k u.at u.tick u.k c.step.result c.step.ensures.same c.step.ensures.after c.step.ensures.value

pub returns-clause-lasting : goal.returns-clause-lasting
returns-clause-lasting c =
    let t = c.args.self.now.ticker in
    let u = c.step.new.self in
    told_lasts t.at t.tick t.k u.at u.tick u.k c.step.ensures.same c.step.ensures.after
