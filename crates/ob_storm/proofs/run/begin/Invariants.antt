use Rattle.std.proofs.Common.{◌≡◌, ◌+◌, ◌-◌, ◌*◌}
use Rattle.ob_storm.specs.Requests.{begin_from}
use Rattle.ob_storm.specs.Runs.{boot, left_by}
use Rattle.ob_storm.proofs.run.begin.Given as goal

abbrev pub invariant-loop-index : goal.invariant-loop-index
invariant-loop-index g l = left_by g.M.Machine.act l.clients (boot + 2 * l.index) (begin_from (l.index + 1) (l.count - l.index)) ≡ left_by g.M.Machine.act l.fn.clients boot (begin_from 1 l.count)
