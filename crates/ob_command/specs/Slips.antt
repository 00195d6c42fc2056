-- What is wrong with words that are no command: the first offence, in their order.
use Rattle.std.specs.Prelude.{ℕ, Bool, true, false, ◌||◌, ◌&&◌, is_some, nat_lt, if◌then◌else◌, List, [], ◌∷◌, ◌++◌, length, bytes_eq, Option, Some, None}
use Rattle.std.specs.List.{list_all, list_any}
use Rattle.std.specs.Option.{option_and_then}
use Rattle.ob_command.specs.Arguments.{Argument, operand, option, bare, arguments, operands, values}
use Rattle.ob_command.specs.Command.{is_help, is_version, asks_help, topic, server_url, leads_from}
use Rattle.ob_command.specs.Forms.{Asked, text, texts, number, url, place, Form, verb_of, form, asked_name}
use Rattle.ob_command.specs.Number.{number_between}
use Rattle.ob_command.specs.Texts.{is_text, first_other}
use Rattle.ob_command.specs.declared.form.Verb.{Verb}
use Rattle.ob_command.specs.declared.slip.TheConstants.{HELP_USAGE, VERSION_USAGE}

pub data Slip : Type 0 where
  -- there is no word
  nothing : Slip
  -- XML can't carry the word
  no_text : (word : List ℕ) → Slip
  -- the word is no command's name
  no_command : (word : List ℕ) → Slip
  -- there are too few operands, or too many, for a command of this usage
  miscounted : (usage : List ℕ) → Slip
  -- the command has no option of that name
  no_option : (command name : List ℕ) → Slip
  -- the option has no value
  no_value : (name : List ℕ) → Slip
  -- the option stands a second time
  twice : (name : List ℕ) → Slip
  -- the word isn't what is asked for
  unfit : Asked → (word : List ℕ) → Slip

-- the word is what is asked for; `server` is the first operand
abbrev pub fits : (server : List ℕ) → Asked → List ℕ → Bool
fits server (text name) word = is_text word
fits server (texts name) word = is_text word
fits server (number name least most) word = is_some (number_between least most word)
fits server (url name) word = is_some (server_url word)
fits server (place name) word = is_text word && is_some (option_and_then (leads_from word) (server_url server))

abbrev pub fit_slip : (server : List ℕ) → Asked → List ℕ → Option Slip
fit_slip server asked word = if fits server asked word then None else Some (unfit asked word)

-- what is asked for by that name
abbrev pub asked_as : List ℕ → List Asked → Option Asked
asked_as name [] = None
asked_as name (asked ∷ more) = if bytes_eq (asked_name asked) name then Some asked else asked_as name more

-- an operand, of which `wanted` are asked for from here on
abbrev pub operand_slip : Form → (server : List ℕ) → (wanted : List Asked) → List ℕ → Option Slip
operand_slip asking server [] word = Some (miscounted asking.usage)
operand_slip asking server (asked ∷ wanted) word = fit_slip server asked word

-- an option with a value, after the arguments `before`
abbrev pub option_slip : Form → (server : List ℕ) → (before : List Argument) → (name value : List ℕ) → Option Asked → Option Slip
option_slip asking server before name value None = Some (no_option asking.name name)
option_slip asking server before name value (Some asked) =
    if nat_lt 0 (length (values name before)) then Some (twice name) else fit_slip server asked value

abbrev pub bare_slip : Form → (name : List ℕ) → Option Asked → Option Slip
bare_slip asking name None = Some (no_option asking.name name)
bare_slip asking name (Some asked) = Some (no_value name)

-- what is wrong with an argument, if anything is
abbrev pub argument_slip : Form → (server : List ℕ) → (before : List Argument) → (wanted : List Asked) → Argument → Option Slip
argument_slip asking server before wanted (operand word) = operand_slip asking server wanted word
argument_slip asking server before wanted (option name value) = option_slip asking server before name value (asked_as name asking.options)
argument_slip asking server before wanted (bare name) = bare_slip asking name (asked_as name asking.options)

-- what is asked for after an operand
abbrev pub wanted_after : List Asked → List Asked
wanted_after [] = []
wanted_after (texts name ∷ wanted) = texts name ∷ wanted
wanted_after (text name ∷ wanted) = wanted
wanted_after (number name least most ∷ wanted) = wanted
wanted_after (url name ∷ wanted) = wanted
wanted_after (place name ∷ wanted) = wanted

abbrev pub still_wanted : List Asked → Argument → List Asked
still_wanted wanted (operand word) = wanted_after wanted
still_wanted wanted (option name value) = wanted
still_wanted wanted (bare name) = wanted

-- no operand is missing
abbrev pub is_done : List Asked → Bool
is_done [] = true
is_done (texts name ∷ wanted) = true
is_done (text name ∷ wanted) = false
is_done (number name least most ∷ wanted) = false
is_done (url name ∷ wanted) = false
is_done (place name ∷ wanted) = false

abbrev pub or_slip : Option Slip → Option Slip → Option Slip
or_slip (Some slip) later = Some slip
or_slip None later = later

-- the first offence among arguments that stand after those of `before`
abbrev pub first_slip : Form → (server : List ℕ) → (before : List Argument) → (wanted : List Asked) → List Argument → Option Slip
first_slip asking server before wanted [] = if is_done wanted then None else Some (miscounted asking.usage)
first_slip asking server before wanted (argument ∷ more) =
    or_slip (argument_slip asking server before wanted argument) (first_slip asking server (before ++ argument ∷ []) (still_wanted wanted argument) more)

abbrev pub first_of : List (List ℕ) → List ℕ
first_of [] = []
first_of (word ∷ words) = word

abbrev pub form_slip : Form → List Argument → Option Slip
form_slip asking given = first_slip asking (first_of (operands given)) [] asking.operands given

abbrev pub verb_slip : (word : List ℕ) → (words : List (List ℕ)) → Option Verb → Option Slip
verb_slip word words None = Some (no_command word)
verb_slip word words (Some verb) = if asks_help words then None else form_slip (form verb) (arguments words)

-- after `help`
abbrev pub help_slip : List (List ℕ) → Option Slip
help_slip [] = None
help_slip (word ∷ []) = if is_some (topic word) then None else Some (no_command word)
help_slip (word ∷ (other ∷ words)) = Some (miscounted HELP_USAGE.now)

-- after `--version`
abbrev pub version_slip : List (List ℕ) → Option Slip
version_slip [] = None
version_slip (word ∷ words) = Some (miscounted VERSION_USAGE.now)

-- words that XML can carry
abbrev pub text_slip : (word : List ℕ) → List (List ℕ) → Option Slip
text_slip word words =
    if is_help word then help_slip words
    else (if is_version word then version_slip words
    else verb_slip word words (verb_of word))

-- the first offence, if there is one; a word that XML can't carry offends before all others
abbrev pub slip : List (List ℕ) → Option Slip
slip [] = Some nothing
slip (word ∷ words) = if list_all is_text (word ∷ words) then text_slip word words else Some (no_text (first_other (word ∷ words)))

-- ---- memory

-- a URL is read
abbrev pub takes_memory : Asked → Bool
takes_memory (url name) = true
takes_memory (place name) = true
takes_memory (text name) = false
takes_memory (texts name) = false
takes_memory (number name least most) = false

-- a URL may be read for the operands `wanted`, or for an option
abbrev pub reads_memory : Form → (wanted : List Asked) → Bool
reads_memory asking wanted = list_any takes_memory wanted || list_any takes_memory asking.options
