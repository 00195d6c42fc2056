-- What a recorder that appends an entry leaves.
use Rattle.std.proofs.Common.{◌≡◌, ℕ, ◌+◌, ◌<◌, ◌^◌, Bool, true, false, List, [], ◌∷◌, ◌++◌, length, refl, ◌∙◌, ap, subst, arith}
use Rattle.std.specs.Prelude.{IfSome}
use Rattle.ob_journal.specs.Device.{LeavesOnly}
use Rattle.ob_journal.specs.Journal.{IsBeforeOrAfter, IsSettled, IsTooLong}
use Rattle.ob_record.specs.Blocks.{IsBlock, block_text}
use Rattle.ob_record.specs.Runs.{IsEntry, parts_of}
use Rattle.ob_record.specs.declared.run.Entry.{Entry}
use Rattle.ob_record.proofs.RunLaws.{small_parts}
use Rattle.ob_times.specs.Times.{IsMoment}
use Rattle.ob_kept.specs.declared.recorder.Recorder.{Recorder}
use Rattle.ob_kept.specs.Recording.{next_block, opening_moment, Appended, HasNoRoom, MayHaveAppended}
use Rattle.ob_kept.specs.Redone.{more_numbers}

-- the next block of a record is one
is_next_block : (boot : ℕ) (begun : Bool) (e : Entry) → IsMoment boot → IsEntry e → IsBlock (block_text (opening_moment boot begun) (parts_of e))
is_next_block boot begun e moment valid = record {
  boot = opening_moment boot begun;
  parts = parts_of e;
  boot_small = small begun;
  small = small_parts e valid;
  text = refl;
}
  where
    small : (b : Bool) → IfSome (opening_moment boot b) (λ ms. ms < 2 ^ 63)
    small true = tt
    small false = omega (arith, moment)

module _ {D : Type 0} (told : Type 0) (seen : D → List ℕ) (may_leave : D → List ℕ → Type 0) (moment : D → ℕ) (left_since : D → ℕ → List ℕ → Type 0) (k l : Recorder D) (e : Entry) where
  -- what an append of a block tells of the device of each
  abbrev pub Acknowledges : List ℕ → Type 0
  Acknowledges closed = told → (entries : List (List ℕ)) (b : List ℕ) → IsSettled IsBlock seen may_leave entries k.journal.device k.journal.end → IsBlock b → closed ≡ b ++ 0 ∷ []
      → IsSettled IsBlock seen may_leave (entries ++ b ∷ []) l.journal.device l.journal.end

  abbrev pub LeavesEither : List ℕ → Type 0
  LeavesEither closed = told → (entries : List (List ℕ)) (b : List ℕ) → IsSettled IsBlock seen may_leave entries k.journal.device k.journal.end → IsBlock b → closed ≡ b ++ 0 ∷ []
      → LeavesOnly moment left_since k.journal.device l.journal.device (IsBeforeOrAfter IsBlock entries b)

  module _ (opens : IsMoment k.boot) (valid : IsEntry e) (closed : List ℕ) (closed_is : closed ≡ next_block k e ++ 0 ∷ []) where
    block : IsBlock (next_block k e)
    block = is_next_block k.boot k.begun e opens valid

    -- the recorder is otherwise as it was
    pub record IsSame : Type 0 where
      pub boot : l.boot ≡ k.boot
      pub full : l.full ≡ k.full
      pub next_is : l.next ≡ k.next

    pub appended : k.failed ≡ false → ¬ (IsTooLong k.journal.end closed) → l.journal.end ≡ k.journal.end + length closed → Acknowledges closed → LeavesEither closed → IsSame → l.begun ≡ true
        → l.failed ≡ k.failed → Appended told seen may_leave moment left_since k l e k.next
    appended alive room end done either same begun failed = record {
      valid = valid;
      room = subst (λ (bytes : List ℕ). ¬ (IsTooLong k.journal.end bytes)) closed_is room;
      boot = same.boot;
      begun = begun;
      failed = failed ∙ alive;
      full = same.full;
      next_is = same.next_is;
      end_is = end ∙ ap (λ (bytes : List ℕ). k.journal.end + length bytes) closed_is;
      settled = λ t blocks settled. done t blocks (next_block k e) settled block closed_is;
      leaves = λ t blocks settled. either t blocks (next_block k e) settled block closed_is;
    }

    pub may_have_appended : l.journal.end ≡ k.journal.end → LeavesEither closed → IsSame → l.begun ≡ k.begun → l.failed ≡ true → MayHaveAppended told seen may_leave moment left_since k l e
    may_have_appended end either same begun failed = record {
      valid = valid;
      boot = same.boot;
      begun = begun;
      failed = failed;
      full = same.full;
      next_is = same.next_is;
      end_is = end;
      leaves = λ t blocks settled. either t blocks (next_block k e) settled block closed_is;
    }

    -- where the file has no room for it
    pub no_room : l ≡ record k { full = true } → IsTooLong k.journal.end closed → HasNoRoom told seen may_leave moment left_since k l e
    no_room noted long = record { noted = noted; long = subst (λ (bytes : List ℕ). IsTooLong k.journal.end bytes) closed_is long }

  -- numbers are noted once the entry is there
  pub numbers_appended : Appended told seen may_leave moment left_since k l e k.next → (next : ℕ) → next ≡ more_numbers l.next
      → Appended told seen may_leave moment left_since k (let m : Recorder D = record l { next = next } in m) e (more_numbers k.next)
  numbers_appended done next is = record {
    valid = done.valid;
    room = done.room;
    boot = done.boot;
    begun = done.begun;
    failed = done.failed;
    full = done.full;
    next_is = is ∙ ap more_numbers done.next_is;
    end_is = done.end_is;
    settled = done.settled;
    leaves = done.leaves;
  }
