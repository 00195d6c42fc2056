use Rattle.std.proofs.Common.{◌≡◌, take}
use Rattle.std.specs.List.{filter}
use Rattle.ob_client.specs.Entries.{is_err}
use Rattle.ob_dialogue.specs.Printing.{lines_of}
use Rattle.ob_dialogue.proofs.lines.err_lines.Given as goal

abbrev pub invariant-loop-entry : goal.invariant-loop-entry
invariant-loop-entry l = l.out.items ≡ lines_of (filter is_err (take l.entry-index l.entries))
