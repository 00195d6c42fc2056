use Rattle.std.proofs.Common.{◌++◌, codes, ℕ, List, ap, ◌∙◌, append_assoc}
use Rattle.ob_command.specs.Lines.{shown}
use Rattle.ob_command.proofs.lines.no_option_words.Goals as goal

pub returns : goal.returns
returns c =
    c.in_ok-append_shown.ensures
    ∙ ap (λ (xs : List ℕ). xs ++ shown c.args.name.now) c.in_ok-words.ensures
    ∙ append_assoc c.args.command.now (codes " has no option ") (shown c.args.name.now)
