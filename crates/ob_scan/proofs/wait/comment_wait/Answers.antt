use Rattle.std.proofs.Common.{sym}
use Rattle.ob_scan.proofs.Waits.{comment_wants}
use Rattle.ob_scan.proofs.wait.comment_wait.Goals as goal

pub returns-in-Ok : goal.returns-in-Ok
returns-in-Ok c = comment_wants c.args.bytes.now c.in-Ok.body.now c.pair_wait.result (sym c.in-Ok.ensures) c.pair_wait.ensures
