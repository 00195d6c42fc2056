use Rattle.std.proofs.Common.{sym}
use Rattle.ob_scan.proofs.Waits.{attribute_name, attribute_rest}
use Rattle.ob_scan.proofs.wait.attribute_wait.Goals as goal

pub returns-in-Err : goal.returns-in-Err
returns-in-Err c = attribute_name c.args.bytes.now c.run_wait.result c.run_wait.ensures

pub returns-in-Ok : goal.returns-in-Ok
returns-in-Ok c = attribute_rest c.args.bytes.now c.in-Ok.field-0-0.now c.in-Ok.rest.now c.value_wait.result (sym c.in-Ok.ensures) c.value_wait.ensures
