-- Runs and their records. A run is what a site was asked by one caller, when, and what it told. Its record is the line
-- `obix-record 1`, the line `boot MS`, and each entry behind the other. Each run has one spelling, and no record spells two.
use Rattle.std.specs.Prelude.{◌≡◌, ℕ, ◌<◌, ◌≤◌, ◌^◌, List, [], ◌++◌, length, codes, Option, Some, None, IfSome}
use Rattle.std.specs.List.{flat_map, AllByRecursion}
use Rattle.ob_encoding.specs.Canonical.{canonical_text}
use Rattle.ob_documents.specs.Carried.{IsCarried}
use Rattle.ob_object.specs.Object.{Object}
use Rattle.ob_times.specs.Times.{IsMoment}
use Rattle.ob_values.specs.XmlText.{IsXmlText}
use Rattle.ob_record.specs.declared.run.Entry.{Entry}
use Rattle.ob_record.specs.declared.run.Told.{Told}
use Rattle.ob_record.specs.declared.run.Told.TheVariants.{Reply, NoMemory}
use Rattle.ob_record.specs.Parts.{Parts, parts_text, number_word}

-- ---- entries

-- a body is written as canonical text without an xmlns; no body has no bytes
abbrev pub body_text : Option Object → List ℕ
body_text None = []
body_text (Some o) = canonical_text None o

-- the bytes of a reply; want of memory has none
abbrev pub reply_bytes : Told → Option (List ℕ)
reply_bytes (Reply bytes) = Some bytes
reply_bytes NoMemory = None

-- what is written of an entry
abbrev pub parts_of : Entry → Parts
parts_of e = record { moment = e.moment; verb = e.request.verb; target = e.request.target; body = body_text e.request.body; reply = reply_bytes e.reply }

-- the text of an entry
abbrev pub entry_text : Entry → List ℕ
entry_text e = parts_text (parts_of e)

-- a body that a document can carry: at most 32 levels, and at most 16,777,216 bytes
abbrev pub IsBody : Option Object → Type 0
IsBody None = Unit {0}
IsBody (Some o) = IsCarried None o × (length (canonical_text None o) ≤ 16_777_216)

-- An entry that can be written: its moment is one, its target is a text, its body can be carried, and all sizes are below
-- 2^63. The bytes of a reply may be any.
pub record IsEntry (e : Entry) : Type 0 where
  pub moment : IsMoment e.moment
  pub target : IsXmlText e.request.target × (length e.request.target < 2 ^ 63)
  pub body : IsBody e.request.body
  pub reply : IfSome (reply_bytes e.reply) (λ bytes. length bytes < 2 ^ 63)

-- the bytes are these entries, one behind the other
abbrev pub AreEntries : List Entry → List ℕ → Type 0
AreEntries entries bytes = AllByRecursion IsEntry entries × (bytes ≡ flat_map entry_text entries)

-- no entry stands first in the bytes
abbrev pub BeginsNone : List ℕ → Type 0
BeginsNone bytes = (e : Entry) (rest : List ℕ) → IsEntry e → bytes ≡ entry_text e ++ rest → ⊥

-- ---- runs

-- the moment of the site's opening, and the entries in order
pub record Recorded : Type 0 where
  pub boot : ℕ
  pub entries : List Entry

abbrev pub first_line : List ℕ
first_line = codes "obix-record 1\n"

abbrev pub boot_line : ℕ → List ℕ
boot_line boot = codes "boot " ++ number_word boot 10

-- the first two lines
abbrev pub head_text : ℕ → List ℕ
head_text boot = first_line ++ boot_line boot

-- the record of a run
abbrev pub run_text : Recorded → List ℕ
run_text run = head_text run.boot ++ flat_map entry_text run.entries

-- a run that has a record
pub record IsRun (run : Recorded) : Type 0 where
  pub boot : IsMoment run.boot
  pub entries : AllByRecursion IsEntry run.entries

-- the bytes are the record of this run
pub record Records (bytes : List ℕ) (run : Recorded) : Type 0 where
  pub valid : IsRun run
  pub text : bytes ≡ run_text run

-- bytes that are the record of a run
abbrev pub IsRecord : List ℕ → Type 0
IsRecord bytes = (run : Recorded) × Records bytes run

-- The bytes are the record of a run of this moment, whose entries begin at this place, and which has so many.
pub record IsMeasured (bytes : List ℕ) (boot first len : ℕ) : Type 0 where
  pub run : Recorded
  pub records : Records bytes run
  pub boot_is : run.boot ≡ boot
  pub first_is : first ≡ length (head_text run.boot)
  pub len_is : len ≡ length run.entries

-- no run has the second line that stands first in the bytes
abbrev pub NoBoot : List ℕ → Type 0
NoBoot bytes = (boot : ℕ) (rest : List ℕ) → IsMoment boot → bytes ≡ boot_line boot ++ rest → ⊥
