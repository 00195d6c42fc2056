-- Requests that are recorded, as entries of a record.
use Rattle.std.specs.Prelude.{◌≡◌, ℕ, ◌≤◌, List, length, map, Option, Some, None}
use Rattle.std.specs.List.{flat_map}
use Rattle.ob_encoding.specs.Canonical.{canonical_text}
use Rattle.ob_documents.specs.Spelling.{Spells}
use Rattle.ob_http.specs.Request.{body_limit}
use Rattle.ob_machine.specs.declared.call.Answer.{Answer}
use Rattle.ob_machine.specs.declared.call.Answer.TheVariants as answers
use Rattle.ob_machine.specs.History.{entry, IsCall, left_by}
use Rattle.ob_object.specs.Object.{Object}
use Rattle.ob_site_rules.specs.declared.request.Request.{Request}
use Rattle.ob_record.specs.declared.run.Entry.{Entry}
use Rattle.ob_record.specs.declared.run.Told.{Told}
use Rattle.ob_record.specs.declared.run.Told.TheVariants.{Reply, NoMemory}
use Rattle.ob_record.specs.Legal.{Call}
use Rattle.ob_record.specs.Runs.{Recorded, IsEntry, entry_text}

-- an answer, as a record tells it
abbrev pub told_of : Answer Object → Told
told_of (answers.Done reply) = Reply (canonical_text None reply)
told_of answers.NoMemory = NoMemory

-- the entry that tells a call
abbrev pub entry_of : Call → Entry
entry_of call = record { moment = call.moment; request = call.request; reply = told_of call.answer }

-- the entries that tell calls
abbrev pub entries_of : List Call → List Entry
entries_of calls = map entry_of calls

-- the run of these calls since the boot at a moment
abbrev pub run_of : ℕ → List Call → Recorded
run_of boot calls = record { boot = boot; entries = entries_of calls }

-- the entries of calls, one behind the other
abbrev pub calls_text : List Call → List ℕ
calls_text calls = flat_map entry_text (entries_of calls)

-- a body was read from as many bytes as a request's body may have at most
abbrev pub BodyIsSpelled : Option Object → Type 0
BodyIsSpelled None = Unit {0}
BodyIsSpelled (Some o) = (bytes : List ℕ) × ((ns : Option (List ℕ)) × Spells bytes ns o × (length bytes ≤ body_limit))

-- a call of the one caller, that a record can tell
pub record IsOwn (call : Call) : Type 0 where
  pub caller : call.caller ≡ 0
  pub entry : IsEntry (entry_of call)

-- the call of the one caller with this answer
abbrev pub own_call : Request → ℕ → Answer Object → Call
own_call request moment answer = entry 0 request moment answer

module _ {S : Type 0} (act : S → Request → ℕ → S × Object) where
  -- The machine was asked, and the bytes are the canonical text of its reply.
  pub record Replies (s s' : S) (request : Request) (moment : ℕ) (bytes : List ℕ) : Type 0 where
    pub reply : Object
    pub acts : act s request moment ≡ (s', reply)
    pub text : bytes ≡ canonical_text None reply

  -- The machine was asked, which is a call, and the bytes are its entry.
  pub record Tells (s s' : S) (request : Request) (moment : ℕ) (bytes : List ℕ) : Type 0 where
    pub reply : Object
    pub call : IsCall act s (own_call request moment (answers.Done reply))
    pub left : s' ≡ (act s request moment).0
    pub own : IsOwn (own_call request moment (answers.Done reply))
    pub text : bytes ≡ entry_text (entry_of (own_call request moment (answers.Done reply)))

  -- The machine was asked, or memory was wanting for it.
  pub record Asked (s s' : S) (request : Request) (moment : ℕ) : Type 0 where
    pub answer : Answer Object
    pub call : IsCall act s (own_call request moment answer)
    pub left : s' ≡ left_by act s request moment answer
