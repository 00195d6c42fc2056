-- The page that `help` writes: the texts of src/pages.rt.
use Rattle.std.specs.Prelude.{ℕ, List, Option, Some, None}
use Rattle.ob_command.specs.declared.form.Verb.{Verb}
use Rattle.ob_command.specs.declared.form.Verb.TheVariants as verbs
use Rattle.ob_command.specs.declared.pages.TheConstants.{ALL, SERVE, KEEP, COMPACT, STDIO, SCHEDULE, WATCH, CONSOLE, CHECK, RECORD, AUDIT, SUPER, STORM}

-- on all commands, or on one
abbrev pub page : Option Verb → List ℕ
page None = ALL.now
page (Some verbs.Serve) = SERVE.now
page (Some verbs.Keep) = KEEP.now
page (Some verbs.Compact) = COMPACT.now
page (Some verbs.Stdio) = STDIO.now
page (Some verbs.Schedule) = SCHEDULE.now
page (Some verbs.Watch) = WATCH.now
page (Some verbs.Console) = CONSOLE.now
page (Some verbs.Check) = CHECK.now
page (Some verbs.Record) = RECORD.now
page (Some verbs.Audit) = AUDIT.now
page (Some verbs.Super) = SUPER.now
page (Some verbs.Storm) = STORM.now
