use Rattle.std.proofs.Common.{sym, ◌∙◌}
use Rattle.std.proofs.lemmas.Bool.{cond-true, lt-ltb}
use Rattle.ob_io.specs.Ticks.{told_ticks}
use Rattle.ob_io.specs.ClockMemory.{clock_twins}
use Rattle.ob_io.proofs.TwinLemmas.{untold, kept}
use Rattle.ob_io.proofs.mem_clock.MemClock.keep.Goals as goal

pub returns-then-is_ok-clause-twin : goal.returns-then-is_ok-clause-twin
returns-then-is_ok-clause-twin c =
    kept c.args.self.now.is_told c.args.self.now.returned.items c.push.new.self.items c.args.twin
    (c.push.ensures.items ∙ cond-true _ _ _ (sym c.is_ok.ensures.value ∙ c.if-is_ok.true))
    (lt-ltb _ _ c.if-twin-lt18446744073709551615.true)

pub returns-clause-twin : goal.returns-clause-twin
returns-clause-twin c =
    untold (told_ticks c.args.twin.ticker.at c.args.twin.ticker.tick c.args.twin.ticker.k) (clock_twins c.args.self.now) c.args.twin.faults
