-- Worked rows on the small site of ob_watching: what lasts, what a step done again leaves, records, and runs.
use Rattle.std.specs.Prelude.{◌≡◌, ℕ, List, [], ◌∷◌, Some, None}
use Rattle.ob_watching.specs.Operations.{PollChanges, Delete, Told, Refused, Answered}
use Rattle.ob_watching.specs.Watches.{World, Reply, first_lease, act}
use Rattle.ob_watching.specs.Clients.{Asking}
use Rattle.ob_watching.specs.Laws.{after}
use Rattle.ob_watching.specs.Rows.{opening, asked, put_at, event, answered, thousand}
use Rattle.ob_watching.specs.Small.{small, Whole, Request, Do, Batch, Make, Ask, Get, Put, AskWatch, Shown, Failed, One, Each, NoSuch, NotInBatch}
use Rattle.ob_lasting.specs.Lasting.{restarted}
use Rattle.ob_lasting.specs.Records.{Noting, Nothing, TheRequest, NumbersBelow, Request as TheNote, Numbers, Noted, calls_of, notes_of, replayed, IsRecorded}
use Rattle.ob_lasting.specs.LastingLaws.{Run, IsHistory}

-- requests one after the other, and a restart at the moment 0
abbrev pub restart_after : List (Request × ℕ) → World small
restart_after rs = restarted small (asked (opening 10) rs) 0

-- the reply to a request at the moment 9 then
abbrev pub reply_then : List (Request × ℕ) → Request → Reply small
reply_then rs r = (act small (restart_after rs) r 9).1

-- a value that was written is read after the restart
abbrev pub StillWritten : Type 0
StillWritten = reply_then (put_at 1 1 8 ∷ []) (Do (Get 1)) ≡ Answered (One (Shown (8 ∷ [])))

-- and its record, with the moment of the write, is there
abbrev pub StillRecorded : Type 0
StillRecorded = (restart_after (put_at 1 1 8 ∷ [])).site.kept ≡ event 1 8 ∷ []

-- no watch stands any more
abbrev pub NoWatchStands : Type 0
NoWatchStands = reply_then ((Make, 1) ∷ []) (Ask 1 PollChanges) ≡ Refused NoSuch

-- the next watch has the next number, also where the one before it was deleted
abbrev pub NextOne : Type 0
NextOne = reply_then ((Make, 1) ∷ (Ask 1 Delete, 2) ∷ []) Make ≡ Told 2 first_lease Whole

-- A site whose time is 50,000, since it was read then. A write at an earlier moment is recorded at the site's time, and so it
-- is when it is done again.
abbrev pub later_time : World small
later_time = asked (opening 10) ((Do (Get 1), 50_000) ∷ [])

-- the write, when it was asked
abbrev pub AtItsTime : Type 0
AtItsTime = (act small later_time (Do (Put 1 8)) 1).0.site.kept ≡ event 50_000 8 ∷ []

-- the write done again after a restart
abbrev pub AgainAtItsTime : Type 0
AgainAtItsTime = (act small (restarted small later_time 0) (Do (Put 1 8)) 50_000).0.site.kept ≡ event 50_000 8 ∷ []

-- a make is refused where a thousand watches stand
abbrev pub RefusedAtAThousand : Type 0
RefusedAtAThousand = (act small thousand Make 1).0.next ≡ 1001

-- the same make where none stands
abbrev pub MadeWithoutThem : Type 0
MadeWithoutThem = (act small (restarted small thousand 0) Make 1).0.next ≡ 1002

-- a batch that asks something of a watch, and writes
abbrev pub batch_on_watch : Request
batch_on_watch = Batch (AskWatch 1 ∷ Put 1 8 ∷ [])

-- while the watch stands: not inside a batch
abbrev pub InABatchBefore : Type 0
InABatchBefore = (act small (asked (opening 10) ((Make, 1) ∷ [])) batch_on_watch 2).1 ≡ Answered (Each (Failed NotInBatch ∷ Shown (8 ∷ []) ∷ []))

-- after the restart: no such object
abbrev pub InABatchAfter : Type 0
InABatchAfter = reply_then ((Make, 1) ∷ []) batch_on_watch ≡ Answered (Each (Failed NoSuch ∷ Shown (8 ∷ []) ∷ []))

-- A day of a site: a watch, a write, a read, the same value again, and another watch. Noted are the first make, by numbers
-- below 1001, and the write.
abbrev pub days_calls : List (Asking small)
days_calls = answered (opening 10) ((Make, 1) ∷ put_at 2 1 8 ∷ (Do (Get 1), 3) ∷ put_at 4 1 8 ∷ (Make, 5) ∷ [])

-- each call with what is noted of it
abbrev pub each_with : List (Asking small) → List Noting → List (Noted small)
each_with [] notings = []
each_with (e ∷ es) [] = []
each_with (e ∷ es) (noting ∷ notings) = (e, noting) ∷ each_with es notings

-- the day's calls with what is noted of each
abbrev pub day : List (Noted small)
day = each_with days_calls (NumbersBelow 1001 ∷ TheRequest ∷ Nothing ∷ Nothing ∷ Nothing ∷ [])

-- each is noted as it must be
abbrev pub IsTheDaysRecord : Type 0
IsTheDaysRecord = IsRecorded small (opening 10) (opening 10) day

-- the notes themselves
abbrev pub DaysNotes : Type 0
DaysNotes = notes_of small (opening 10) day ≡ Numbers 1001 ∷ TheNote (Do (Put 1 8)) 2 ∷ []

-- replayed, the record gives the site that the day left
abbrev pub DayReplayed : Type 0
DayReplayed = (replayed small (opening 10) (notes_of small (opening 10) day)).site ≡ (after small (opening 10) (calls_of small day)).site

-- and the watch that is made next is the 1001st
abbrev pub NumbersPassedOver : Type 0
NumbersPassedOver = (act small (replayed small (opening 10) (notes_of small (opening 10) day)) Make 6).1 ≡ Told 1001 first_lease Whole

-- A run: the node 1 was put to 8, which was answered, and to 9, which was never answered.
abbrev pub cut_off : Run small
cut_off = record { start = opening 10; calls = answered (opening 10) (put_at 1 1 8 ∷ []); lost = Some (put_at 2 1 9) }

-- a run after it that only reads the node
abbrev pub run_from : World small → Run small
run_from start = record { start = start; calls = answered start ((Do (Get 1), 3) ∷ []); lost = None }

-- The next run may start with 9, since the lost request was done,
abbrev pub LostWasDone : Type 0
LostWasDone = IsHistory small (cut_off ∷ run_from (restart_after (put_at 1 1 8 ∷ put_at 2 1 9 ∷ [])) ∷ [])

-- or with 8, since it wasn't;
abbrev pub LostWasNotDone : Type 0
LostWasNotDone = IsHistory small (cut_off ∷ run_from (restart_after (put_at 1 1 8 ∷ [])) ∷ [])

-- but not with the value before that: what was answered isn't lost.
abbrev pub AnsweredIsNotLost : Type 0
AnsweredIsNotLost = IsHistory small (cut_off ∷ run_from (opening 10) ∷ []) → ⊥
