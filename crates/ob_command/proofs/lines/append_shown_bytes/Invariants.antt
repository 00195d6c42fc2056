use Rattle.std.proofs.Common.{◌≡◌, ◌++◌, drop}
use Rattle.ob_command.specs.Lines.{shown_bytes}
use Rattle.ob_command.proofs.lines.append_shown_bytes.Given as goal

abbrev pub invariant-loop-byte : goal.invariant-loop-byte
invariant-loop-byte l = l.out.items ++ shown_bytes (drop l.byte-index l.bytes) ≡ l.fn.out.items ++ shown_bytes l.bytes
