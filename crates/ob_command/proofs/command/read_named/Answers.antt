use Rattle.std.proofs.Common.{sym, ap, ◌∙◌, option_map}
use Rattle.ob_command.specs.Named.{command_of, slip_of}
use Rattle.ob_command.specs.Slips.{form_slip}
use Rattle.ob_command.specs.Words.{arguments_of}
use Rattle.ob_command.proofs.CommandLemmas.{never}
use Rattle.ob_command.proofs.command.read_named.Goals as goal

pub returns-in-None : goal.returns-in-None
returns-in-None c =
    absurd (never (arguments_of c.args.given) c.args.verb
    (sym c.in_ok-command.ensures ∙ ap (λ o. option_map command_of o) c.in_default.is)
    (ap (λ f. form_slip f (arguments_of c.args.given)) (sym c.form-form.ensures) ∙ sym c.in_ok-slip.ensures.value ∙ ap (λ o. option_map slip_of o) c.in-None.is))
