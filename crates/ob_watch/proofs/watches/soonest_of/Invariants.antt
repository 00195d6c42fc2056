use Rattle.std.proofs.Common.{take}
use Rattle.std.specs.List.{AllByRecursion}
use Rattle.ob_watch.specs.Tables.{StandsUntil}
use Rattle.ob_watch.proofs.watches.soonest_of.Given as goal

abbrev pub invariant-loop-watch : goal.invariant-loop-watch
invariant-loop-watch l = AllByRecursion (StandsUntil l.soonest) (take l.watch-index l.watches)
