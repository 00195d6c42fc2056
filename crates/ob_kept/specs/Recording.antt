-- What a recorder has done to the file of a record: what a call of it leaves.
use Rattle.std.specs.Prelude.{◌≡◌, ◌⊎◌, ℕ, ◌+◌, ◌<◌, ◌≤◌, Bool, true, false, cond, List, [], ◌∷◌, ◌++◌, length, Option, Some, None}
use Rattle.ob_encoding.specs.Canonical.{canonical_text}
use Rattle.ob_object.specs.Object.{Object}
use Rattle.ob_values.specs.declared.verb.Verb.TheVariants.{Get}
use Rattle.ob_journal.specs.Device.{LeavesOnly}
use Rattle.ob_journal.specs.Journal.{IsAtRest, IsBeforeOrAfter, IsSettled, IsTooLong}
use Rattle.ob_record.specs.Blocks.{IsBlock, block_text}
use Rattle.ob_record.specs.Runs.{IsEntry, parts_of}
use Rattle.ob_record.specs.declared.run.Entry.{Entry}
use Rattle.ob_record.specs.declared.run.Told.TheVariants.{Reply}
use Rattle.ob_site_rules.specs.declared.request.Request.{Request}
use Rattle.ob_site_rules.specs.Entries.{empty_object}
use Rattle.ob_kept.specs.declared.recorder.Recorder.{Recorder}
use Rattle.ob_kept.specs.Redone.{kept_reply, more_numbers}

-- an entry with these bytes as its reply
abbrev pub asked_entry : Request → ℕ → List ℕ → Entry
asked_entry r time reply = record { moment = time; request = r; reply = Reply reply }

-- the entry of a request that is kept
abbrev pub entry_of : Request → ℕ → Object → Entry
entry_of r time reply = asked_entry r time (canonical_text None (kept_reply r reply))

-- that of numbers of watches: it gets, and asks for nothing
abbrev pub numbers_entry : ℕ → Entry
numbers_entry time = asked_entry (record { verb = Get; target = []; body = None }) time (canonical_text None empty_object)

-- the line of the opening stands before the first entry
abbrev pub opening_moment : ℕ → Bool → Option ℕ
opening_moment boot begun = cond begun None (Some boot)

-- the block of the next entry
abbrev pub next_block : {D : Type 0} → Recorder D → Entry → List ℕ
next_block k e = block_text (opening_moment k.boot k.begun) (parts_of e)

-- and with the closed gate behind it
abbrev pub closed_block : {D : Type 0} → Recorder D → Entry → List ℕ
closed_block k e = next_block k e ++ 0 ∷ []

-- Of a device told says whether anything is; seen, may_leave, moment and left_since say what its file is, and what a crash may
-- leave.
module _ {D : Type 0} (told : Type 0) (seen : D → List ℕ) (may_leave : D → List ℕ → Type 0) (moment : D → ℕ) (left_since : D → ℕ → List ℕ → Type 0) where
  -- no call has failed, and the file is entries at rest
  abbrev pub IsReady : Recorder D → Type 0
  IsReady k = (k.failed ≡ false) × (told → IsAtRest IsBlock seen may_leave k.journal.device k.journal.end)

  -- A crash since then leaves the blocks of before, with this one more or without it.
  abbrev pub LeavesBeforeOrAfter : Recorder D → Recorder D → Entry → Type 0
  LeavesBeforeOrAfter k l e = (blocks : List (List ℕ)) → IsSettled IsBlock seen may_leave blocks k.journal.device k.journal.end
      → LeavesOnly moment left_since k.journal.device l.journal.device (IsBeforeOrAfter IsBlock blocks (next_block k e))

  -- An entry that a record can have was appended, for which there was room, and is on the disk.
  pub record Appended (k l : Recorder D) (e : Entry) (next : ℕ) : Type 0 where
    pub valid : IsEntry e
    pub room : ¬ (IsTooLong k.journal.end (closed_block k e))
    pub boot : l.boot ≡ k.boot
    pub begun : l.begun ≡ true
    pub failed : l.failed ≡ false
    pub full : l.full ≡ k.full
    pub next_is : l.next ≡ next
    pub end_is : l.journal.end ≡ k.journal.end + length (closed_block k e)
    pub settled : told → (blocks : List (List ℕ)) → IsSettled IsBlock seen may_leave blocks k.journal.device k.journal.end
        → IsSettled IsBlock seen may_leave (blocks ++ next_block k e ∷ []) l.journal.device l.journal.end
    pub leaves : told → LeavesBeforeOrAfter k l e

  -- A call of the device has failed: the entry is there or isn't, and nothing is appended any more.
  pub record MayHaveAppended (k l : Recorder D) (e : Entry) : Type 0 where
    pub valid : IsEntry e
    pub boot : l.boot ≡ k.boot
    pub begun : l.begun ≡ k.begun
    pub failed : l.failed ≡ true
    pub full : l.full ≡ k.full
    pub next_is : l.next ≡ k.next
    pub end_is : l.journal.end ≡ k.journal.end
    pub leaves : told → LeavesBeforeOrAfter k l e

  -- The file has no room for an entry: nothing was done, and that is noted.
  pub record HasNoRoom (k l : Recorder D) (e : Entry) : Type 0 where
    pub noted : l ≡ record k { full = true }
    pub long : IsTooLong k.journal.end (closed_block k e)

  -- After an error nothing was done, for want of memory or of room; or a call of the device has failed.
  abbrev pub MayHave : Recorder D → Recorder D → Entry → Type 0
  MayHave k l e = (l ≡ k) ⊎ (HasNoRoom k l e ⊎ MayHaveAppended k l e)

  -- a request was kept
  abbrev pub KeptRequest : Recorder D → Recorder D → Request → ℕ → Object → Type 0
  KeptRequest k l r time reply = Appended k l (entry_of r time reply) k.next

  -- numbers of watches were
  abbrev pub KeptNumbers : Recorder D → Recorder D → ℕ → Type 0
  KeptNumbers k l time = Appended k l (numbers_entry time) (more_numbers k.next)

  -- What a step keeps, after which the next watch has this number: numbers of watches, where it has given one that the record
  -- doesn't say of; or else the request.
  pub record HasKept (k l : Recorder D) (r : Request) (time next : ℕ) (reply : Object) : Type 0 where
    pub request : next ≤ k.next → KeptRequest k l r time reply
    pub numbers : k.next < next → KeptNumbers k l time

  -- the same after an error
  pub record MayHaveKept (k l : Recorder D) (r : Request) (time next : ℕ) (reply : Object) : Type 0 where
    pub request : next ≤ k.next → MayHave k l (entry_of r time reply)
    pub numbers : k.next < next → MayHave k l (numbers_entry time)
