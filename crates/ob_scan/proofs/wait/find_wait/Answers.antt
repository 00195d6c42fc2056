use Rattle.ob_scan.proofs.Waits.{found_outside}
use Rattle.ob_scan.proofs.wait.find_wait.Goals as goal

pub returns-then-is_outside : goal.returns-then-is_outside
returns-then-is_outside c = found_outside c.args.place c.args.bytes.now c.is_outside.result c.outside_wait.result c.is_outside.ensures c.if-is_outside.true c.outside_wait.ensures
