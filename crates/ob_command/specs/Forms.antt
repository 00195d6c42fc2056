-- The commands by their names, and what each asks for.
use Rattle.std.specs.Prelude.{ℕ, List, [], ◌∷◌, codes, bytes_eq, Option, Some, None, if◌then◌else◌}
use Rattle.ob_command.specs.declared.form.Verb.{Verb}
use Rattle.ob_command.specs.declared.form.Verb.TheVariants as verbs

-- an operand or an option by its name, and what it has to be, or the option's value
pub data Asked : Type 0 where
  -- text that XML can carry
  text : (name : List ℕ) → Asked
  -- the same; further operands are such ones too, as many as there are
  texts : (name : List ℕ) → Asked
  -- a number of 1 to 18 digits in that range
  number : (name : List ℕ) → (least most : ℕ) → Asked
  -- an http URL without a fragment
  url : (name : List ℕ) → Asked
  -- what names something on the server of the first operand, which is a URL
  place : (name : List ℕ) → Asked

-- what a command asks for: its operands in their order, and options, each at most once
pub record Form : Type 0 where
  pub name : List ℕ
  -- the name with all that it asks for
  pub usage : List ℕ
  pub operands : List Asked
  pub options : List Asked

abbrev pub verb_of : List ℕ → Option Verb
verb_of word =
    if bytes_eq word (codes "serve") then Some verbs.Serve
    else (if bytes_eq word (codes "keep") then Some verbs.Keep
    else (if bytes_eq word (codes "compact") then Some verbs.Compact
    else (if bytes_eq word (codes "stdio") then Some verbs.Stdio
    else (if bytes_eq word (codes "schedule") then Some verbs.Schedule
    else (if bytes_eq word (codes "watch") then Some verbs.Watch
    else (if bytes_eq word (codes "console") then Some verbs.Console
    else (if bytes_eq word (codes "check") then Some verbs.Check
    else (if bytes_eq word (codes "record") then Some verbs.Record
    else (if bytes_eq word (codes "audit") then Some verbs.Audit
    else (if bytes_eq word (codes "super") then Some verbs.Super
    else (if bytes_eq word (codes "storm") then Some verbs.Storm
    else None)))))))))))

abbrev pub form : Verb → Form
form verbs.Serve = record {
  name = codes "serve";
  usage = codes "serve SITE HOST PORT [--workers N] [--quota M]";
  operands = text (codes "SITE") ∷ text (codes "HOST") ∷ number (codes "PORT") 0 65_535 ∷ [];
  options = number (codes "--workers") 1 64 ∷ number (codes "--quota") 1 1_000_000 ∷ [];
}
form verbs.Keep = record {
  name = codes "keep";
  usage = codes "keep SITE RECORD HOST PORT [--workers N] [--quota M]";
  operands = text (codes "SITE") ∷ text (codes "RECORD") ∷ text (codes "HOST") ∷ number (codes "PORT") 0 65_535 ∷ [];
  options = number (codes "--workers") 1 64 ∷ number (codes "--quota") 1 1_000_000 ∷ [];
}
form verbs.Compact = record {
  name = codes "compact";
  usage = codes "compact SITE RECORD NEW";
  operands = text (codes "SITE") ∷ text (codes "RECORD") ∷ text (codes "NEW") ∷ [];
  options = [];
}
form verbs.Stdio = record {
  name = codes "stdio";
  usage = codes "stdio SITE [--at MS] [--tick MS]";
  operands = text (codes "SITE") ∷ [];
  options = number (codes "--at") 0 253_402_300_799_999 ∷ number (codes "--tick") 0 999_999_999_999_999_999 ∷ [];
}
form verbs.Schedule = record {
  name = codes "schedule";
  usage = codes "schedule SITE FILE [--at MS] [--tick MS]";
  operands = text (codes "SITE") ∷ text (codes "FILE") ∷ [];
  options = number (codes "--at") 0 253_402_300_799_999 ∷ number (codes "--tick") 0 999_999_999_999_999_999 ∷ [];
}
form verbs.Watch = record {
  name = codes "watch";
  usage = codes "watch URL HREF.. [--polls N] [--retry R]";
  operands = url (codes "URL") ∷ text (codes "HREF") ∷ texts (codes "HREF") ∷ [];
  options = number (codes "--polls") 0 1_000_000 ∷ number (codes "--retry") 0 100 ∷ [];
}
form verbs.Console = record {
  name = codes "console";
  usage = codes "console URL SUBJECT [--polls N] [--ack HREF] [--user NAME]";
  operands = url (codes "URL") ∷ place (codes "SUBJECT") ∷ [];
  options = number (codes "--polls") 0 1_000_000 ∷ text (codes "--ack") ∷ text (codes "--user") ∷ [];
}
form verbs.Check = record {
  name = codes "check";
  usage = codes "check FILE";
  operands = text (codes "FILE") ∷ [];
  options = [];
}
form verbs.Record = record {
  name = codes "record";
  usage = codes "record SITE [--at MS] [--tick MS]";
  operands = text (codes "SITE") ∷ [];
  options = number (codes "--at") 0 253_402_300_799_999 ∷ number (codes "--tick") 0 999_999_999_999_999_999 ∷ [];
}
form verbs.Audit = record {
  name = codes "audit";
  usage = codes "audit SITE FILE";
  operands = text (codes "SITE") ∷ text (codes "FILE") ∷ [];
  options = [];
}
form verbs.Super = record {
  name = codes "super";
  usage = codes "super CONFIG [--rounds N] [--wait MS]";
  operands = text (codes "CONFIG") ∷ [];
  options = number (codes "--rounds") 0 1_000_000 ∷ number (codes "--wait") 1 300_000 ∷ [];
}
form verbs.Storm = record {
  name = codes "storm";
  usage = codes "storm SEED CLIENTS REQUESTS";
  operands = number (codes "SEED") 0 999_999_999_999_999_999 ∷ number (codes "CLIENTS") 1 100 ∷ number (codes "REQUESTS") 1 1_000_000 ∷ [];
  options = [];
}

-- the name of an operand or an option
abbrev pub asked_name : Asked → List ℕ
asked_name (text name) = name
asked_name (texts name) = name
asked_name (number name least most) = name
asked_name (url name) = name
asked_name (place name) = name
