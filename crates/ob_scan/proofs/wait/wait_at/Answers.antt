use Rattle.ob_scan.proofs.Waits.{next_waits}
use Rattle.ob_scan.proofs.wait.wait_at.Goals as goal

pub returns-in-None : goal.returns-in-None
returns-in-None c = next_waits c.args.place c.args.bytes.now c.requires
