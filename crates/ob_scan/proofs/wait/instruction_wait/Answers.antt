use Rattle.std.proofs.Common.{sym, ◌∙◌}
use Rattle.ob_scan.proofs.Waits.{instruction_target, instruction_body}
use Rattle.ob_scan.proofs.wait.instruction_wait.Goals as goal

pub returns-in-Err : goal.returns-in-Err
returns-in-Err c = instruction_target c.args.bytes.now c.run_wait.result c.run_wait.ensures

pub returns-else-is_xml_target : goal.returns-else-is_xml_target
returns-else-is_xml_target c = instruction_body c.args.bytes.now c.in-Ok.target.now c.in-Ok.behind.now c.body_wait.result (sym c.in-Ok.ensures) (sym c.is_xml_target.ensures ∙ c.if-is_xml_target.false) c.body_wait.ensures
