use Rattle.ob_scan.proofs.Waits.{tag_name}
use Rattle.ob_scan.proofs.wait.tag_name_wait.Goals as goal

pub returns : goal.returns
returns c = tag_name c.args.bytes.now c.run_wait.result c.run_wait.ensures
