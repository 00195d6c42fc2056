use Rattle.std.proofs.Common.{◌-◌}
use Rattle.ob_watch.proofs.GivingLemmas.{Rounds}
use Rattle.ob_watch.proofs.watches.give_way.Given as goal

abbrev pub invariant-loop-round : goal.invariant-loop-round
invariant-loop-round l = Rounds (l._round - 1) l.now l.fn.held.entries l.held.entries
