use Rattle.std.proofs.Common.{sym}
use Rattle.ob_scan.proofs.Waits.{value_spaces, equals_spaces, value_wants}
use Rattle.ob_scan.proofs.wait.value_wait.Goals as goal

pub returns-in-Err : goal.returns-in-Err
returns-in-Err c = value_spaces c.args.bytes.now c.in-Err.field-0 (sym c.in-Err.ensures)

pub returns-in-Err-read_spaces : goal.returns-in-Err-read_spaces
returns-in-Err-read_spaces c = equals_spaces c.args.bytes.now c.in-Ok.before.now c.in-Ok-read_literal.behind.now c.in-Err-read_spaces.field-0 (sym c.in-Ok.ensures) (sym c.in-Ok-read_literal.ensures) (sym c.in-Err-read_spaces.ensures)

pub returns-in-Ok-read_spaces : goal.returns-in-Ok-read_spaces
returns-in-Ok-read_spaces c = value_wants c.args.bytes.now c.in-Ok.before.now c.in-Ok-read_literal.behind.now c.in-Ok-read_spaces.quoted.now c.quote_wait.result (sym c.in-Ok.ensures) (sym c.in-Ok-read_literal.ensures) (sym c.in-Ok-read_spaces.ensures) c.quote_wait.ensures
