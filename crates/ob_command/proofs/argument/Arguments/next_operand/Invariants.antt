use Rattle.std.proofs.Common.{◌≡◌, length}
use Rattle.ob_command.specs.Arguments.{operands}
use Rattle.ob_command.specs.Words.{arguments_of}
use Rattle.ob_command.proofs.argument.Arguments.next_operand.Given as goal

abbrev pub invariant-loop-argument : goal.invariant-loop-argument
invariant-loop-argument l = operands (arguments_of l.rest) ≡ operands (arguments_of l.self)

abbrev pub decreases-loop-argument : goal.decreases-loop-argument
decreases-loop-argument l = length l.rest.words.now
