use Rattle.std.proofs.Common.{◌≡◌, length, nat_lt}
use Rattle.ob_command.specs.Arguments.{values}
use Rattle.ob_command.specs.Words.{arguments_of}
use Rattle.ob_command.proofs.slip.is_before.Given as goal

abbrev pub invariant-loop-left : goal.invariant-loop-left
invariant-loop-left l =
    nat_lt (length (values l.name (arguments_of l.later))) (length (values l.name (arguments_of l.all)))
    ≡ nat_lt (length (values l.name (arguments_of l.rest))) (length (values l.name (arguments_of l.given)))

abbrev pub decreases-loop-left : goal.decreases-loop-left
decreases-loop-left l = length (values l.name (arguments_of l.all))
