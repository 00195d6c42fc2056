use Rattle.std.proofs.Common.{◌≡◌, ◌++◌, length, option_map}
use Rattle.ob_command.specs.Arguments.{operands}
use Rattle.ob_command.specs.Words.{arguments_of}
use Rattle.ob_command.specs.Texts.{texts_if}
use Rattle.ob_command.proofs.text.read_texts.Given as goal

abbrev pub invariant-loop-word : goal.invariant-loop-word
invariant-loop-word l = option_map (λ more. l.texts.items ++ more) (texts_if (operands (arguments_of l.rest))) ≡ texts_if (operands (arguments_of l.given))

abbrev pub decreases-loop-word : goal.decreases-loop-word
decreases-loop-word l = length (operands (arguments_of l.rest))
