use Rattle.std.proofs.Common.{◌≡◌, drop, map}
use Rattle.std.specs.Prelude.{string_bytes}
use Rattle.ob_command.specs.Command.{asks_help}
use Rattle.ob_command.proofs.command.asks_help.Given as goal

abbrev pub invariant-loop-word : goal.invariant-loop-word
invariant-loop-word l = asks_help (map string_bytes (drop l.word-index l.words)) ≡ asks_help (map string_bytes l.words)
