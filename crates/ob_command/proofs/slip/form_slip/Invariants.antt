use Rattle.std.proofs.Common.{◌≡◌, true, length, map}
use Rattle.std.specs.List.{list_any}
use Rattle.ob_command.specs.Named.{asked_of, form_of}
use Rattle.ob_command.specs.Slips.{takes_memory}
use Rattle.ob_command.specs.Words.{arguments_of}
use Rattle.ob_command.proofs.ArgumentLemmas.{Walked}
use Rattle.ob_command.proofs.slip.form_slip.Given as goal

abbrev pub invariant-loop-argument : goal.invariant-loop-argument
invariant-loop-argument l =
    Walked (form_of l.form) l.url (arguments_of l.given) (map asked_of l.wanted) (arguments_of l.rest)
    × (list_any takes_memory (map asked_of l.wanted) ≡ true → list_any takes_memory (map asked_of l.form.operands.now) ≡ true)

abbrev pub decreases-loop-argument : goal.decreases-loop-argument
decreases-loop-argument l = length l.rest.words.now
