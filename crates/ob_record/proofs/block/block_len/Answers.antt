use Rattle.std.proofs.Common.{arith}
use Rattle.ob_record.proofs.BlockLaws.{rest_within, block_taken, none_read}
use Rattle.ob_record.proofs.block.block_len.Goals as goal

pub returns-in_default-clause-none : goal.returns-in_default-clause-none
returns-in_default-clause-none c = none_read c.args.bytes.now c.in_default.ensures

pub overflow_sub-result : goal.overflow_sub-result
overflow_sub-result c = rest_within c.args.bytes.now c.in-Some.rest.now c.in-Some.ensures

pub returns-clause-some : goal.returns-clause-some
returns-clause-some c = (omega arith, block_taken c.args.bytes.now c.in-Some.rest.now c.in-Some.ensures)
