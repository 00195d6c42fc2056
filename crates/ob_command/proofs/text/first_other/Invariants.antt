use Rattle.std.proofs.Common.{◌≡◌, drop, map}
use Rattle.std.specs.Prelude.{string_bytes}
use Rattle.ob_command.specs.Texts.{first_other}
use Rattle.ob_command.proofs.text.first_other.Given as goal

abbrev pub invariant-loop-word : goal.invariant-loop-word
invariant-loop-word l = first_other (map string_bytes (drop l.word-index l.words)) ≡ first_other (map string_bytes l.words)
