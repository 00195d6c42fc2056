-- The parts of a command line that the code holds.
use Rattle.std.specs.Prelude.{List, map, string_bytes, if◌then◌else◌}
use Rattle.ob_command.specs.declared.argument.Argument.{Argument}
use Rattle.ob_command.specs.declared.argument.Argument.TheVariants.{Operand, Set, Bare}
use Rattle.ob_command.specs.declared.argument.Arguments.{Arguments}
use Rattle.ob_command.specs.Arguments as words

abbrev pub argument_of : Argument → words.Argument
argument_of (Operand word) = words.operand word.now
argument_of (Set name value) = words.option name.now value.now
argument_of (Bare name) = words.bare name.now

-- the arguments that the words are, which are all operands behind `--`
abbrev pub arguments_of : Arguments → List words.Argument
arguments_of a = if a.plain then map words.operand (map string_bytes a.words.now) else words.arguments (map string_bytes a.words.now)
