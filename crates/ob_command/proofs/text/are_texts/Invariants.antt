use Rattle.std.proofs.Common.{◌≡◌, drop, map}
use Rattle.std.specs.List.{list_all}
use Rattle.std.specs.Prelude.{string_bytes}
use Rattle.ob_command.specs.Texts.{is_text}
use Rattle.ob_command.proofs.text.are_texts.Given as goal

abbrev pub invariant-loop-word : goal.invariant-loop-word
invariant-loop-word l = list_all is_text (map string_bytes (drop l.word-index l.words)) ≡ list_all is_text (map string_bytes l.words)
