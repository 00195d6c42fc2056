-- Legal runs, and what an audit finds.
use Rattle.std.specs.Prelude.{◌≡◌, ◌≢◌, ◌⊎◌, ⊤, ℕ, List, [], ◌∷◌, ◌++◌, length, take, Option, Some, None, Result, Ok, Err}
use Rattle.std.specs.declared.alloc.AllocError.{AllocError}
use Rattle.ob_encoding.specs.Canonical.{canonical_text}
use Rattle.ob_machine.specs.declared.call.Answer.{Answer}
use Rattle.ob_machine.specs.declared.call.Answer.TheVariants as answers
use Rattle.ob_machine.specs.declared.call.Entry as calls
use Rattle.ob_machine.specs.History.{IsCall, IsLegal}
use Rattle.ob_object.specs.Object.{Object}
use Rattle.ob_site_rules.specs.declared.request.Request.{Request}
use Rattle.ob_record.specs.declared.auditing.Verdict.{Verdict}
use Rattle.ob_record.specs.declared.auditing.Verdict.TheVariants.{Legal, Illegal}
use Rattle.ob_record.specs.declared.run.Entry.{Entry}
use Rattle.ob_record.specs.declared.run.Told.{Told}
use Rattle.ob_record.specs.declared.run.Told.TheVariants.{Reply, NoMemory}

-- a call on the machine, with its caller, request, moment and answer
abbrev pub Call : Type 0
Call = calls.Entry Request Object

-- the bytes are the canonical text, without an xmlns, of the reply; want of memory is told as such
abbrev pub Tells : Told → Answer Object → Type 0
Tells (Reply bytes) (answers.Done reply) = bytes ≡ canonical_text None reply
Tells (Reply bytes) answers.NoMemory = ⊥
Tells NoMemory (answers.Done reply) = ⊥
Tells NoMemory answers.NoMemory = ⊤

-- the entry tells this call, which is that of the one caller, whose number is 0
pub record IsCallOf (e : Entry) (call : Call) : Type 0 where
  pub caller : call.caller ≡ 0
  pub moment : call.moment ≡ e.moment
  pub request : call.request ≡ e.request
  pub told : Tells e.reply call.answer

-- the entries tell these calls, in order
abbrev pub AreCallsOf : List Entry → List Call → Type 0
AreCallsOf [] [] = ⊤
AreCallsOf [] (call ∷ calls) = ⊥
AreCallsOf (e ∷ es) [] = ⊥
AreCallsOf (e ∷ es) (call ∷ calls) = IsCallOf e call × AreCallsOf es calls

-- act s q t is the state that the request q at the moment t leaves of s, and the reply
module _ {S : Type 0} (act : S → Request → ℕ → S × Object) where
  -- The run is legal from this state: its entries tell the calls of a legal history.
  pub record IsLegalRun (s : S) (entries : List Entry) : Type 0 where
    pub history : List Call
    pub legal : IsLegal act s history
    pub told : AreCallsOf entries history

  -- the state that an entry leaves; want of memory leaves it as it was
  abbrev pub left_by_told : S → Request → ℕ → Told → S
  left_by_told s q at (Reply bytes) = (act s q at).0
  left_by_told s q at NoMemory = s

  abbrev pub left_by_entry : S → Entry → S
  left_by_entry s e = left_by_told s e.request e.moment e.reply

  -- the state that entries leave, one after the other
  abbrev pub after_entries : S → List Entry → S
  after_entries s [] = s
  after_entries s (e ∷ es) = after_entries (left_by_entry s e) es

  -- the text that the reply of an entry should have at this state
  abbrev pub expected_at : S → Entry → List ℕ
  expected_at s e = canonical_text None (act s e.request e.moment).1

  -- the entry has the bytes of a reply, and they are others than the machine's
  pub record Differs (s : S) (e : Entry) (expected : List ℕ) : Type 0 where
    pub bytes : List ℕ
    pub told : e.reply ≡ Reply bytes
    pub expected_is : expected ≡ expected_at s e
    pub other : bytes ≢ expected

  -- The entry at this place is the first whose reply isn't the machine's, and this is the text that it should have had.
  pub record IsIllegalAt (s s' : S) (entries : List Entry) (place : ℕ) (expected : List ℕ) : Type 0 where
    pub front : List Entry
    pub entry : Entry
    pub rest : List Entry
    pub entries_are : entries ≡ front ++ entry ∷ rest
    pub place_is : place ≡ length front
    pub legal : IsLegalRun s front
    pub differs : Differs (after_entries s front) entry expected
    pub after : s' ≡ after_entries s (front ++ entry ∷ [])
    pub illegal : IsLegalRun s entries → ⊥

  -- What an audit says. For want of memory some first entries were done.
  abbrev pub Audits : S → S → List Entry → Result Verdict AllocError → Type 0
  Audits s s' entries (Ok (Legal count)) = IsLegalRun s entries × (count ≡ length entries) × (s' ≡ after_entries s entries)
  Audits s s' entries (Ok (Illegal place expected)) = IsIllegalAt s s' entries place expected
  Audits s s' entries (Err e) = (done : ℕ) × (s' ≡ after_entries s (take done entries))

  -- one entry: a call that it tells, or the text that its reply should have had
  abbrev pub StepsEntry : S → S → Entry → Result (Option (List ℕ)) AllocError → Type 0
  StepsEntry s s' e (Ok None) = (s' ≡ left_by_entry s e) × ((call : Call) × IsCall act s call × IsCallOf e call)
  StepsEntry s s' e (Ok (Some expected)) = (s' ≡ left_by_entry s e) × Differs s e expected
  StepsEntry s s' e (Err fault) = (s' ≡ s) ⊎ (s' ≡ left_by_entry s e)
