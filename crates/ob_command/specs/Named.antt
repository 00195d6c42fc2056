-- The command that the code holds.
use Rattle.std.specs.Prelude.{◌≡◌, map, Option, Some, None, Result, Ok, Err, option_copied}
use Rattle.ob_command.specs.declared.client.WatchWords.{WatchWords}
use Rattle.ob_command.specs.declared.client.ConsoleWords.{ConsoleWords}
use Rattle.ob_command.specs.declared.form.Asked.{Asked}
use Rattle.ob_command.specs.declared.form.Asked.TheVariants as asked
use Rattle.ob_command.specs.declared.form.Form.{Form}
use Rattle.ob_command.specs.declared.storm.Storm.{Storm}
use Rattle.ob_command.specs.declared.command.Command.{Command}
use Rattle.ob_command.specs.declared.command.Command.TheVariants as variants
use Rattle.ob_command.specs.Arguments.{operands}
use Rattle.ob_command.specs.Words.{arguments_of}
use Rattle.ob_command.specs.Storm as values
use Rattle.ob_command.specs.Command as commands
use Rattle.ob_command.specs.Forms as forms
use Rattle.ob_command.specs.Slips as slips
use Rattle.ob_command.specs.declared.slip.Slip.{Slip}
use Rattle.ob_command.specs.declared.slip.Slip.TheVariants as found

abbrev pub storm_values : Storm → values.Storm
storm_values s = record { seed = s.seed; clients = s.clients; requests = s.requests }

abbrev pub command_of : Command → commands.Command
command_of (variants.Stdio service) = commands.stdio service.output service.site.now service.at service.tick
command_of (variants.Schedule service) = commands.schedule service.site.now service.file.now service.at service.tick
command_of (variants.Audit audit) = commands.auditing audit.site.now audit.file.now
command_of (variants.Serve service) = commands.serve service.site.now service.host.now service.port service.workers service.quota
command_of (variants.Keep kept) =
    commands.keep kept.service.site.now kept.file.now kept.service.host.now kept.service.port kept.service.workers kept.service.quota
command_of (variants.Compact asked) = commands.compacting asked.site.now asked.file.now asked.new.now
command_of (variants.Check file) = commands.check file.now
command_of (variants.Watch client) = commands.watch client.url client.hrefs.items client.polls client.retries
command_of (variants.Console client) = commands.console client.url client.subject client.polls client.ack client.user
command_of (variants.Storm asked) = commands.storm (storm_values asked)
command_of (variants.Super asked) = commands.supervise asked.config.now asked.rounds asked.wait_ms
command_of (variants.Help verb) = commands.help verb
command_of variants.Version = commands.version

-- what the words of a client's command come to, once its URL is read
abbrev pub watch_from : WatchWords → Option commands.Command
watch_from words = commands.watch_at words.url.now (operands (arguments_of words.hrefs)) words.polls words.retries

abbrev pub console_from : ConsoleWords → Option commands.Command
console_from words = commands.console_at words.url.now words.subject.now words.polls (option_copied words.ack) words.user.now

-- what the code's table asks for
abbrev pub asked_of : Asked → forms.Asked
asked_of (asked.Text name) = forms.text name.now
asked_of (asked.Texts name) = forms.texts name.now
asked_of (asked.Number name least most) = forms.number name.now least most
asked_of (asked.Url name) = forms.url name.now
asked_of (asked.Place name) = forms.place name.now

abbrev pub form_of : Form → forms.Form
form_of form = record { name = form.name.now; usage = form.usage.now; operands = map asked_of form.operands.now; options = map asked_of form.options.now }

-- the slip that the code holds
abbrev pub slip_of : Slip → slips.Slip
slip_of found.Nothing = slips.nothing
slip_of (found.NoText word) = slips.no_text word.now
slip_of (found.NoCommand word) = slips.no_command word.now
slip_of (found.Miscounted usage) = slips.miscounted usage.now
slip_of (found.NoOption command name) = slips.no_option command.now name.now
slip_of (found.NoValue name) = slips.no_value name.now
slip_of (found.Twice name) = slips.twice name.now
slip_of (found.Unfit asked word) = slips.unfit (asked_of asked) word.now

-- The words were read: they are this command, or they are none, and this is their first offence.
abbrev pub IsRead : Option commands.Command → Option slips.Slip → Result Command Slip → Type 0
IsRead asked offence (Ok command) = asked ≡ Some (command_of command)
IsRead asked offence (Err slip) = (asked ≡ None) × (offence ≡ Some (slip_of slip))
