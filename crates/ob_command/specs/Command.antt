-- The command that the words behind the program's name are.
use Rattle.std.specs.Prelude.{ℕ, Bool, true, false, ◌||◌, if◌then◌else◌, List, [], ◌∷◌, codes, bytes_eq, Option, Some, None, option_map, Result, Ok, Err}
use Rattle.std.specs.List.{list_all}
use Rattle.std.specs.Option.{option_and_then, unwrap_or}
use Rattle.url.specs.Parts.{Parts}
use Rattle.url.specs.Parser.{parse_url}
use Rattle.ob_href.specs.Href.{as_base, resolved_path}
use Rattle.ob_href.specs.declared.fault.HrefFault.{HrefFault}
use Rattle.ob_command.specs.Arguments.{Argument, arguments, operands, values, has_only}
use Rattle.ob_command.specs.Forms.{verb_of}
use Rattle.ob_command.specs.Number.{number_between}
use Rattle.ob_command.specs.Storm.{Storm, storm_of}
use Rattle.ob_command.specs.declared.form.Verb.{Verb}
use Rattle.ob_command.specs.declared.form.Verb.TheVariants as verbs
use Rattle.ob_command.specs.declared.server.Output.{Output}
use Rattle.ob_command.specs.declared.server.Output.TheVariants.{Answers, Record}
use Rattle.ob_command.specs.Texts.{is_text, text_if, texts_if, optional_text}

pub data Command : Type 0 where
  -- what is written for the requests; the site file; the moment that the clock begins at, if it is given; the milliseconds from one
  -- moment to the next
  stdio : Output → (site : List ℕ) → (at : Option ℕ) → (tick : ℕ) → Command
  -- the site file and that of the schedules; the moment that the clock begins at, if it is given; the milliseconds from one
  -- moment to the next
  schedule : (site file : List ℕ) → (at : Option ℕ) → (tick : ℕ) → Command
  -- the site file; where it listens; how many workers there are, and how many links each of them serves
  serve : (site host : List ℕ) → (port workers quota : ℕ) → Command
  -- the site file and the record's; where it listens; how many workers there are, and how many links each of them serves
  keep : (site file host : List ℕ) → (port workers quota : ℕ) → Command
  -- the site file; the record's file
  auditing : (site file : List ℕ) → Command
  -- the site file; the record's file, and that of the new record
  compacting : (site file new : List ℕ) → Command
  -- the document's file
  check : (file : List ℕ) → Command
  -- the URL of a lobby; what is watched there; how often it is polled, and how many broken polls are mended
  watch : (url : Parts) → (hrefs : List (List ℕ)) → (polls retries : ℕ) → Command
  -- the URL of a lobby; the alarm subject; how often its feed is polled; the alarm to acknowledge, if one is given, and who does
  console : (url : Parts) → (subject : List ℕ) → (polls : ℕ) → (ack : Option (List ℕ)) → (user : List ℕ) → Command
  -- the seed, the clients and the requests
  storm : Storm → Command
  -- the file that names the servers, how many rounds over them come first, and how many milliseconds one may take for a poll, a dial
  -- or a write that is sent on
  supervise : (config : List ℕ) → (rounds wait_ms : ℕ) → Command
  -- the page on a command, or that on all of them
  help : Option Verb → Command
  -- the program's version
  version : Command

-- ---- the values of an option, which is given at most once

-- the number, if it is given
abbrev pub number_given : (least most : ℕ) → List (List ℕ) → Option (Option ℕ)
number_given least most [] = Some None
number_given least most (text ∷ []) = option_map (λ n. Some n) (number_between least most text)
number_given least most (text ∷ (other ∷ more)) = None

-- the number, or another one where none is given
abbrev pub number_or : (least most default : ℕ) → List (List ℕ) → Option ℕ
number_or least most default given = option_map (λ n. unwrap_or n default) (number_given least most given)

-- the word, if it is given
abbrev pub word_given : List (List ℕ) → Option (Option (List ℕ))
word_given [] = Some None
word_given (word ∷ []) = Some (Some word)
word_given (word ∷ (other ∷ more)) = None

-- ---- the commands

-- the end of the year 9999, in milliseconds from 1970 on
abbrev pub last_moment : ℕ
last_moment = 253_402_300_799_999

abbrev pub largest_number : ℕ
largest_number = 999_999_999_999_999_999

abbrev pub stdio_with : Output → (operands : List (List ℕ)) → (at : Option (Option ℕ)) → (tick : Option ℕ) → Option Command
stdio_with output (site ∷ []) (Some at) (Some tick) = Some (stdio output site at tick)
stdio_with _ _ _ _ = None

-- `SITE [--at MS] [--tick MS]`
abbrev pub stdio_of : Output → List Argument → Option Command
stdio_of output given =
    if has_only (codes "--at" ∷ codes "--tick" ∷ []) given
    then stdio_with output (operands given) (number_given 0 last_moment (values (codes "--at") given)) (number_or 0 largest_number 0 (values (codes "--tick") given))
    else None

abbrev pub schedule_with : (operands : List (List ℕ)) → (at : Option (Option ℕ)) → (tick : Option ℕ) → Option Command
schedule_with (site ∷ (file ∷ [])) (Some at) (Some tick) = Some (schedule site file at tick)
schedule_with _ _ _ = None

-- `SITE FILE [--at MS] [--tick MS]`
abbrev pub schedule_of : List Argument → Option Command
schedule_of given =
    if has_only (codes "--at" ∷ codes "--tick" ∷ []) given
    then schedule_with (operands given) (number_given 0 last_moment (values (codes "--at") given)) (number_or 0 largest_number 0 (values (codes "--tick") given))
    else None

abbrev pub auditing_with : List (List ℕ) → Option Command
auditing_with (site ∷ (file ∷ [])) = Some (auditing site file)
auditing_with _ = None

-- `SITE FILE`
abbrev pub auditing_of : List Argument → Option Command
auditing_of given = if has_only [] given then auditing_with (operands given) else None

abbrev pub compact_with : List (List ℕ) → Option Command
compact_with (site ∷ (file ∷ (new ∷ []))) = Some (compacting site file new)
compact_with _ = None

-- `SITE RECORD NEW`
abbrev pub compact_of : List Argument → Option Command
compact_of given = if has_only [] given then compact_with (operands given) else None

abbrev pub serve_with : (operands : List (List ℕ)) → (port workers quota : Option ℕ) → Option Command
serve_with (site ∷ (host ∷ (_ ∷ []))) (Some port) (Some workers) (Some quota) = Some (serve site host port workers quota)
serve_with _ _ _ _ = None

-- the third operand as a number
abbrev pub port_in : List (List ℕ) → Option ℕ
port_in (site ∷ (host ∷ (port ∷ more))) = number_between 0 65_535 port
port_in _ = None

-- `SITE HOST PORT [--workers N] [--quota M]`
abbrev pub serve_of : List Argument → Option Command
serve_of given =
    if has_only (codes "--workers" ∷ codes "--quota" ∷ []) given
    then serve_with (operands given) (port_in (operands given)) (number_or 1 64 4 (values (codes "--workers") given)) (number_or 1 1_000_000 1 (values (codes "--quota") given))
    else None

abbrev pub keep_with : (operands : List (List ℕ)) → (port workers quota : Option ℕ) → Option Command
keep_with (site ∷ (file ∷ (host ∷ (_ ∷ [])))) (Some port) (Some workers) (Some quota) = Some (keep site file host port workers quota)
keep_with _ _ _ _ = None

-- the fourth operand as a number
abbrev pub kept_port_in : List (List ℕ) → Option ℕ
kept_port_in (site ∷ operands) = port_in operands
kept_port_in [] = None

-- `SITE RECORD HOST PORT [--workers N] [--quota M]`
abbrev pub keep_of : List Argument → Option Command
keep_of given =
    if has_only (codes "--workers" ∷ codes "--quota" ∷ []) given
    then keep_with (operands given) (kept_port_in (operands given)) (number_or 1 64 4 (values (codes "--workers") given)) (number_or 1 1_000_000 1 (values (codes "--quota") given))
    else None

abbrev pub check_with : List (List ℕ) → Option Command
check_with (file ∷ []) = Some (check file)
check_with _ = None

-- `FILE`
abbrev pub check_of : List Argument → Option Command
check_of given = if has_only [] given then check_with (operands given) else None

abbrev pub supervise_with : (operands : List (List ℕ)) → (rounds wait : Option ℕ) → Option Command
supervise_with (config ∷ []) (Some rounds) (Some wait) = Some (supervise config rounds wait)
supervise_with _ _ _ = None

-- `CONFIG [--rounds N] [--wait MS]`
abbrev pub supervise_of : List Argument → Option Command
supervise_of given =
    if has_only (codes "--rounds" ∷ codes "--wait" ∷ []) given
    then supervise_with (operands given) (number_or 0 1_000_000 1 (values (codes "--rounds") given)) (number_or 1 300_000 10_000 (values (codes "--wait") given))
    else None

abbrev http_only : Result Parts HrefFault → Option Parts
http_only (Ok url) = if bytes_eq url.scheme (codes "https") then None else Some url
http_only (Err e) = None

-- the http URL without a fragment that the text is read as
abbrev pub server_url : List ℕ → Option Parts
server_url text = http_only (as_base (parse_url None text))

abbrev pub watch_at : (url : List ℕ) → (hrefs : List (List ℕ)) → (polls retries : ℕ) → Option Command
watch_at url hrefs polls retries = option_and_then (λ hs. option_map (λ u. watch u hs polls retries) (server_url url)) (texts_if hrefs)

abbrev pub watch_with : (operands : List (List ℕ)) → (polls retries : Option ℕ) → Option Command
watch_with (url ∷ (href ∷ hrefs)) (Some polls) (Some retries) = watch_at url (href ∷ hrefs) polls retries
watch_with _ _ _ = None

-- `URL HREF.. [--polls N] [--retry R]`
abbrev pub watch_of : List Argument → Option Command
watch_of given =
    if has_only (codes "--polls" ∷ codes "--retry" ∷ []) given
    then watch_with (operands given) (number_or 0 1_000_000 1 (values (codes "--polls") given)) (number_or 0 100 0 (values (codes "--retry") given))
    else None

abbrev is_path : Result (List ℕ) HrefFault → Bool
is_path (Ok path) = true
is_path (Err e) = false

-- the URL, where the text names something on its server
abbrev pub leads_from : (text : List ℕ) → Parts → Option Parts
leads_from text url = if is_path (resolved_path url text) then Some url else None

abbrev pub console_at : (url subject : List ℕ) → (polls : ℕ) → (ack : Option (List ℕ)) → (user : List ℕ) → Option Command
console_at url subject polls ack user =
    option_and_then (λ s. option_and_then (λ n. option_and_then (λ a. option_map (λ u. console u s polls a n)
    (option_and_then (leads_from subject) (server_url url))) (optional_text ack)) (text_if user)) (text_if subject)

abbrev pub console_with : (operands : List (List ℕ)) → (polls : Option ℕ) → (ack user : Option (Option (List ℕ))) → Option Command
console_with (url ∷ (subject ∷ [])) (Some polls) (Some ack) (Some user) = console_at url subject polls ack (unwrap_or user (codes "console"))
console_with _ _ _ _ = None

-- `URL SUBJECT [--polls N] [--ack HREF] [--user NAME]`
abbrev pub console_of : List Argument → Option Command
console_of given =
    if has_only (codes "--polls" ∷ codes "--ack" ∷ codes "--user" ∷ []) given
    then console_with (operands given) (number_or 0 1_000_000 1 (values (codes "--polls") given)) (word_given (values (codes "--ack") given)) (word_given (values (codes "--user") given))
    else None

-- the command of a name with its arguments
abbrev pub named : Verb → List Argument → Option Command
named verbs.Serve given = serve_of given
named verbs.Keep given = keep_of given
named verbs.Compact given = compact_of given
named verbs.Stdio given = stdio_of Answers given
named verbs.Schedule given = schedule_of given
named verbs.Watch given = watch_of given
named verbs.Console given = console_of given
named verbs.Check given = check_of given
named verbs.Record given = stdio_of Record given
named verbs.Audit given = auditing_of given
named verbs.Super given = supervise_of given
named verbs.Storm given = option_map storm (storm_of given)

-- ---- help and version

abbrev pub is_help : List ℕ → Bool
is_help word = bytes_eq word (codes "help") || bytes_eq word (codes "--help")

abbrev pub is_version : List ℕ → Bool
is_version word = bytes_eq word (codes "--version")

-- `--help` stands among the words, before any `--`
abbrev pub asks_help : List (List ℕ) → Bool
asks_help [] = false
asks_help (word ∷ words) = if bytes_eq word (codes "--") then false else (bytes_eq word (codes "--help") || asks_help words)

-- the page that a word after `help` asks for
abbrev pub topic : List ℕ → Option Command
topic word = if is_help word || is_version word then Some (help None) else option_map (λ verb. help (Some verb)) (verb_of word)

-- `help [COMMAND]`
abbrev pub help_of : List (List ℕ) → Option Command
help_of [] = Some (help None)
help_of (word ∷ []) = topic word
help_of (word ∷ (other ∷ words)) = None

-- `--version`
abbrev pub version_of : List (List ℕ) → Option Command
version_of [] = Some version
version_of (word ∷ words) = None

-- a command's name with the words after it
abbrev pub verb_command : (words : List (List ℕ)) → Option Verb → Option Command
verb_command words None = None
verb_command words (Some verb) = if asks_help words then Some (help (Some verb)) else named verb (arguments words)

abbrev pub worded : (word : List ℕ) → (words : List (List ℕ)) → Option Command
worded word words =
    if is_help word then help_of words
    else (if is_version word then version_of words
    else verb_command words (verb_of word))

-- one of the commands above with its arguments; all other words are no command
abbrev pub command : List (List ℕ) → Option Command
command [] = None
command (word ∷ words) = if list_all is_text (word ∷ words) then worded word words else None

-- a client's command: its URL is read into memory
abbrev pub reads_url : Option Verb → Bool
reads_url (Some verbs.Watch) = true
reads_url (Some verbs.Console) = true
reads_url _ = false

-- the words begin with the name of a client's command
abbrev pub is_client : List (List ℕ) → Bool
is_client [] = false
is_client (word ∷ words) = reads_url (verb_of word)
