-- Worked rows on the small site, each a reply that is computed.
use Rattle.std.specs.Prelude.{◌≡◌, ◌⊎◌, ℕ, zero, suc, false, ◌+◌, ◌-◌, ◌^◌, List, [], ◌∷◌, ◌++◌, length, replicate}
use Rattle.ob_machine.specs.History.{entry}
use Rattle.ob_machine.specs.declared.call.Answer.TheVariants.{Done, NoMemory}
use Rattle.ob_watching.specs.Operations.{Add, Remove, PollChanges, PollRefresh, Delete, Renew, Look, Shows, Lists, Refuses, Told, Out, Refused, Answered}
use Rattle.ob_watching.specs.Tables.{numbers_of}
use Rattle.ob_watching.specs.Watches.{World, Watch, Item, Reading, Reply, Object, first_lease, act}
use Rattle.ob_watching.specs.Clients.{Asking, calls, replay}
use Rattle.ob_watching.specs.Laws.{after, HoldsFeed}
use Rattle.ob_watching.specs.Small.{small, Whole, NoSuch, TooManyWatches, TooManyItems, TooManyInAll, TooManyBytes, NotInBatch, Request, Do, Batch, Make, Ask, Get, Put, AskWatch, Failed, Each, Event, Nodes, root, feed_path}

-- nodes 1 and 2 with the value 0; the history of node 1 keeps this many records
abbrev pub opening : ℕ → World small
opening capacity = record {
  time = 0;
  next = 1;
  watches = [];
  site = record { nodes = (1, 0) ∷ (2, 0) ∷ []; kept = []; gone = 0; capacity = capacity };
}

-- requests one after the other, each answered with the machine's reply
abbrev pub asked : World small → List (Request × ℕ) → World small
asked w [] = w
asked w (r ∷ rs) = asked (act small w r.0 r.1).0 rs

-- the reply to one more request at a moment, after some were asked
abbrev pub reply_to_last : World small → List (Request × ℕ) → Request → ℕ → Reply small
reply_to_last w rs r moment = (act small (asked w rs) r moment).1

-- at a moment, a path is put to with a value
abbrev pub put_at : ℕ → ℕ → ℕ → Request × ℕ
put_at moment path value = (Do (Put path value), moment)

-- an entry that shows values under a text
abbrev pub shows : ℕ → List ℕ → Reading small
shows text values = record { text = text; content = Shows values }

-- an entry of the feed: how many events dropped out, and these
abbrev pub lists : ℕ → List Event → Reading small
lists dropped events = record { text = feed_path; content = Lists [] dropped events }

-- an event: when, and the value
abbrev pub event : ℕ → ℕ → Event
event time value = record { time = time; value = value }

-- each path with the time from which on everything is wanted
abbrev pub asked_from_start : List ℕ → List (ℕ × ℕ)
asked_from_start [] = []
asked_from_start (p ∷ ps) = (p, 0) ∷ asked_from_start ps

-- watch 1, made at 0, with these paths added at once
abbrev pub watching : List ℕ → List (Request × ℕ)
watching paths = (Make, 0) ∷ (Ask 1 (Add (asked_from_start paths)), 0) ∷ []

-- a value that goes there and back between two polls is reported, with the root round it and both events
abbrev pub ThereAndBack : Type 0
ThereAndBack = reply_to_last (opening 10) (watching (1 ∷ root ∷ 2 ∷ feed_path ∷ []) ++ put_at 1 1 8 ∷ put_at 2 1 0 ∷ []) (Ask 1 PollChanges) 3
    ≡ Out (shows 1 (0 ∷ []) ∷ shows root (0 ∷ 0 ∷ []) ∷ lists 0 (event 1 8 ∷ event 2 0 ∷ []) ∷ [])

-- a mark stays through later steps
abbrev pub StillMarked : Type 0
StillMarked = reply_to_last (opening 10) (watching (1 ∷ []) ++ put_at 1 1 8 ∷ put_at 2 2 5 ∷ (Do (Get 1), 3) ∷ []) (Ask 1 PollChanges) 4 ≡ Out (shows 1 (8 ∷ []) ∷ [])

-- what a poll reported is not reported again, and a write of an equal value reports nothing
abbrev pub NothingNew : Type 0
NothingNew = reply_to_last (opening 10) (watching (1 ∷ feed_path ∷ []) ++ put_at 1 1 8 ∷ (Ask 1 PollChanges, 2) ∷ put_at 3 1 8 ∷ []) (Ask 1 PollChanges) 4 ≡ Out []

-- one batch that sets a value and sets it back changes nothing
abbrev pub BackInOneBatch : Type 0
BackInOneBatch = reply_to_last (opening 10) (watching (1 ∷ root ∷ []) ++ (Batch (Put 1 8 ∷ Put 1 0 ∷ []), 1) ∷ []) (Ask 1 PollChanges) 2 ≡ Out []

-- of a batch the last write stands
abbrev pub LastOfBatch : Type 0
LastOfBatch = reply_to_last (opening 10) (watching (1 ∷ []) ++ (Batch (Put 1 8 ∷ Put 1 9 ∷ []), 1) ∷ []) (Ask 1 PollChanges) 2 ≡ Out (shows 1 (9 ∷ []) ∷ [])

-- a lease of a minute lasts up to the last millisecond of it, and no longer
abbrev pub LastMoment : Type 0
LastMoment = reply_to_last (opening 10) ((Make, 0) ∷ []) (Ask 1 (Look Whole)) 59_999 ≡ Told 1 first_lease Whole

-- with the next millisecond the watch is gone
abbrev pub LapsesThen : Type 0
LapsesThen = reply_to_last (opening 10) ((Make, 0) ∷ []) (Ask 1 (Look Whole)) 60_000 ≡ Refused NoSuch

-- a lease is renewed by requests on its own watch alone, also by one that is refused
abbrev pub RenewedByOwn : Type 0
RenewedByOwn = reply_to_last (opening 10) ((Make, 0) ∷ (Make, 0) ∷ (Ask 2 (Renew 5), 59_999) ∷ (Do (Get 1), 59_999) ∷ (Ask 3 PollChanges, 59_999) ∷ []) (Ask 2 PollChanges) 60_000 ≡ Out []

-- and isn't renewed by requests on another watch, or on the site
abbrev pub NotByOthers : Type 0
NotByOthers = reply_to_last (opening 10) ((Make, 0) ∷ (Make, 0) ∷ (Ask 2 (Renew 5), 59_999) ∷ (Do (Get 1), 59_999) ∷ (Ask 2 PollChanges, 60_000) ∷ []) (Ask 1 PollChanges) 60_000 ≡ Refused NoSuch

-- one watch that lapses takes no other with it
abbrev pub OthersStand : Type 0
OthersStand = reply_to_last (opening 10) ((Make, 0) ∷ (Make, 30_000) ∷ (Do (Get 1), 60_000) ∷ []) (Ask 2 (Look Whole)) 60_001 ≡ Told 2 first_lease Whole

-- time doesn't go back
abbrev pub TimeStays : Type 0
TimeStays = reply_to_last (opening 10) ((Make, 0) ∷ (Do (Get 1), 60_000) ∷ []) (Ask 1 (Look Whole)) 1 ≡ Refused NoSuch

-- so a request at an earlier moment renews the lease from the latest moment on
abbrev pub TouchedAtLatest : Type 0
TouchedAtLatest = reply_to_last (opening 10) ((Make, 0) ∷ (Do (Get 1), 50_000) ∷ (Ask 1 PollChanges, 1) ∷ []) (Ask 1 (Look Whole)) 109_999 ≡ Told 1 first_lease Whole

-- a number isn't used again
abbrev pub NextNumber : Type 0
NextNumber = reply_to_last (opening 10) ((Make, 0) ∷ (Ask 1 Delete, 1) ∷ []) Make 2 ≡ Told 2 first_lease Whole

-- the number of a deleted watch names nothing, also where another was made since
abbrev pub DeletedIsGone : Type 0
DeletedIsGone = reply_to_last (opening 10) ((Make, 0) ∷ (Ask 1 Delete, 1) ∷ (Make, 2) ∷ []) (Ask 1 PollRefresh) 3 ≡ Refused NoSuch

-- each event comes once, whatever is added or removed meanwhile
abbrev pub EventOnce : Type 0
EventOnce = reply_to_last (opening 10) (watching (feed_path ∷ []) ++ put_at 1 1 8 ∷ (Ask 1 PollChanges, 2) ∷ put_at 3 1 9 ∷ (Ask 1 (Add ((2, 0) ∷ [])), 4) ∷ (Ask 1 (Remove (2 ∷ [])), 5) ∷ []) (Ask 1 PollChanges) 6
    ≡ Out (lists 0 (event 3 9 ∷ []) ∷ [])

-- the feed that is added anew is given whole, and nothing of it again
abbrev pub AddedAnew : Type 0
AddedAnew = reply_to_last (opening 10) (watching (feed_path ∷ []) ++ put_at 1 1 8 ∷ []) (Ask 1 (Add ((feed_path, 0) ∷ []))) 2 ≡ Out (lists 0 (event 1 8 ∷ []) ∷ [])

-- and of what it was given a poll behind it gives nothing
abbrev pub ThenNothing : Type 0
ThenNothing = reply_to_last (opening 10) (watching (feed_path ∷ []) ++ put_at 1 1 8 ∷ (Ask 1 (Add ((feed_path, 0) ∷ [])), 2) ∷ []) (Ask 1 PollChanges) 3 ≡ Out []

-- a filter lets the events from a time on pass
abbrev pub FromThen : Type 0
FromThen = reply_to_last (opening 10) ((Make, 0) ∷ (Ask 1 (Add ((feed_path, 2) ∷ [])), 0) ∷ put_at 1 1 8 ∷ put_at 2 1 9 ∷ []) (Ask 1 PollChanges) 3 ≡ Out (lists 0 (event 2 9 ∷ []) ∷ [])

-- of equal hrefs in one add the first counts, and one that names nothing is answered with its err
abbrev pub FirstOfEqual : Type 0
FirstOfEqual = reply_to_last (opening 10) ((Make, 0) ∷ []) (Ask 1 (Add ((1, 0) ∷ (7, 0) ∷ (1, 0) ∷ []))) 1 ≡ Out (shows 1 (0 ∷ []) ∷ record { text = 7; content = Refuses NoSuch } ∷ [])

-- a batch asks nothing of a watch: one that stands is refused as such, another isn't there
abbrev pub NotInABatch : Type 0
NotInABatch = reply_to_last (opening 10) ((Make, 0) ∷ []) (Batch (AskWatch 1 ∷ AskWatch 2 ∷ [])) 1 ≡ Answered (Each (Failed NotInBatch ∷ Failed NoSuch ∷ []))

-- a history that keeps two: the second and third write of the three since the poll are reported, one dropped out
abbrev pub rolling : List (Request × ℕ)
rolling = put_at 1 1 22 ∷ put_at 2 1 23 ∷ (Make, 3) ∷ (Ask 1 (Add ((feed_path, 0) ∷ [])), 3) ∷ (Ask 1 PollRefresh, 3) ∷ put_at 4 1 21 ∷ put_at 5 1 24 ∷ put_at 6 1 25 ∷ []

-- a poll tells how many events dropped out unreported, before those that are kept
abbrev pub DroppedIsTold : Type 0
DroppedIsTold = reply_to_last (opening 2) rolling (Ask 1 PollChanges) 7 ≡ Out (lists 1 (event 5 24 ∷ event 6 25 ∷ []) ∷ [])

-- where all that rolled off was told, nothing is dropped
abbrev pub RolledAfterTold : Type 0
RolledAfterTold = reply_to_last (opening 2) (rolling ++ (Ask 1 PollChanges, 7) ∷ put_at 8 1 26 ∷ []) (Ask 1 PollChanges) 9 ≡ Out (lists 0 (event 8 26 ∷ []) ∷ [])

-- dropped events are told also where none that is kept passes the filter
abbrev pub DroppedAlone : Type 0
DroppedAlone = reply_to_last (opening 1) ((Make, 0) ∷ (Ask 1 (Add ((feed_path, 100) ∷ [])), 0) ∷ put_at 1 1 8 ∷ put_at 2 1 9 ∷ []) (Ask 1 PollChanges) 3 ≡ Out (lists 1 [] ∷ [])

-- the same requests, answered, as a history
abbrev pub answered : World small → List (Request × ℕ) → List (Asking small)
answered w [] = []
answered w (r ∷ rs) = entry 0 r.0 r.1 (Done (act small w r.0 r.1).1) ∷ answered (act small w r.0 r.1).0 rs

-- a client that replayed them holds all four events that it was given, and has missed one
abbrev pub HeldAfterRolling : Type 0
HeldAfterRolling = replay small (calls small 1 (answered (opening 2) (rolling ++ (Ask 1 PollChanges, 7) ∷ []))) ≡ lists 1 (event 1 22 ∷ event 2 23 ∷ event 5 24 ∷ event 6 25 ∷ []) ∷ []

-- a poll that finds no memory changes nothing: the next one gives what it would have given
abbrev pub AfterNoMemory : Type 0
AfterNoMemory = (act small (after small (asked (opening 10) (watching (1 ∷ feed_path ∷ []) ++ put_at 1 1 8 ∷ [])) (entry 0 (Ask 1 PollChanges) 2 NoMemory ∷ [])) (Ask 1 PollChanges) 3).1
    ≡ Out (shows 1 (8 ∷ []) ∷ lists 0 (event 1 8 ∷ []) ∷ [])

-- the last number is given, and then none
abbrev pub numbered : ℕ → World small
numbered next = record { time = 0; next = next; watches = []; site = (opening 10).site }

-- the last number that there is is given
abbrev pub LastNumber : Type 0
LastNumber = reply_to_last (numbered (2 ^ 63 - 1)) [] Make 0 ≡ Told (2 ^ 63 - 1) first_lease Whole

-- behind it a make is refused
abbrev pub NoNumber : Type 0
NoNumber = reply_to_last (numbered (2 ^ 63 - 1)) ((Make, 0) ∷ []) Make 0 ≡ Refused TooManyWatches

-- this many watches, made at the moment 0
abbrev pub many : ℕ → List (ℕ × Watch small)
many zero = []
many (suc k) = many k ++ (suc k, record { lease = first_lease; touched = 0; items = [] }) ∷ []

-- a thousand watches stand
abbrev pub thousand : World small
thousand = record { time = 0; next = 1001; watches = many 1000; site = (opening 10).site }

-- the thousand and first is refused while they stand, and made in the very step in which they lapse
abbrev pub NotOneMore : Type 0
NotOneMore = reply_to_last thousand [] Make 59_999 ≡ Refused TooManyWatches

-- one millisecond later they have lapsed, and the same make is answered
abbrev pub OnceTheyLapsed : Type 0
OnceTheyLapsed = reply_to_last thousand [] Make 60_000 ≡ Told 1001 first_lease Whole

-- this many items on the node 1, under hrefs of their own
abbrev pub items : ℕ → List (Item small)
items zero = []
items (suc k) = record { text = 100 + k; path = 1; tracked = Object false } ∷ items k

-- a watch with the most items stands
abbrev pub crowded : World small
crowded = record { time = 0; next = 2; watches = (1, record { lease = first_lease; touched = 0; items = items 2048 }) ∷ []; site = (opening 10).site }

-- a new item is refused where there are the most, and one that is there is taken anew
abbrev pub NotOneItemMore : Type 0
NotOneItemMore = reply_to_last crowded [] (Ask 1 (Add ((1, 0) ∷ (2, 0) ∷ []))) 1 ≡ Out (record { text = 1; content = Refuses TooManyItems } ∷ record { text = 2; content = Refuses TooManyItems } ∷ [])

-- a watch asked of last at a moment, with these items and a lease of an hour
abbrev pub hourly : ℕ → List (Item small) → Watch small
hourly touched own = record { lease = 3_600_000_000_000; touched = touched; items = own }

-- these watches stand, under the numbers from 1 on
abbrev pub numbered_from : ℕ → List (Watch small) → List (ℕ × Watch small)
numbered_from n [] = []
numbered_from n (v ∷ vs) = (n, v) ∷ numbered_from (n + 1) vs

abbrev pub standing : List (Watch small) → World small
standing vs = record { time = 0; next = length vs + 1; watches = numbered_from 1 vs; site = (opening 10).site }

-- the numbers of the watches that stand once a make was asked for at a moment
abbrev pub left_by_make : List (Watch small) → ℕ → List ℕ
left_by_make vs moment = numbers_of (act small (standing vs) Make moment).0.watches

-- one item whose href has so many bytes
abbrev pub of_bytes : ℕ → List (Item small)
of_bytes n = record { text = n; path = 1; tracked = Object false } ∷ []

-- all watches together have their most items with this one, of no bytes
abbrev pub items_but : ℕ → List (Item small)
items_but k = replicate (200_000 - k) (record { text = 0; path = 1; tracked = Object false })

-- beside 199,999 items one more is added, and of the next ones the new one is refused and that which is there is put anew
abbrev pub NotOneInAll : Type 0
NotOneInAll = reply_to_last (standing (hourly 0 (items_but 1) ∷ hourly 0 [] ∷ [])) ((Ask 2 (Add ((1, 0) ∷ [])), 1) ∷ []) (Ask 2 (Add ((2, 0) ∷ (1, 0) ∷ []))) 2
    ≡ Out (record { text = 2; content = Refuses TooManyInAll } ∷ shows 1 (0 ∷ []) ∷ [])

-- an item that another watch removed leaves its room
abbrev pub RoomAfterRemove : Type 0
RoomAfterRemove = reply_to_last (standing (hourly 0 (items_but 0) ∷ hourly 0 [] ∷ [])) ((Ask 1 (Remove (0 ∷ [])), 1) ∷ []) (Ask 2 (Add ((2, 0) ∷ []))) 2 ≡ Out (shows 2 (0 ∷ []) ∷ [])

-- hrefs of 16,777,216 bytes in all are there, one of which is put anew; the next byte is too many
abbrev pub NotOneByteMore : Type 0
NotOneByteMore = reply_to_last (standing (hourly 0 (of_bytes 16_777_214) ∷ hourly 0 [] ∷ [])) ((Ask 2 (Add ((2, 0) ∷ [])), 1) ∷ []) (Ask 2 (Add ((1, 0) ∷ (2, 0) ∷ []))) 2
    ≡ Out (record { text = 1; content = Refuses TooManyBytes } ∷ shows 2 (0 ∷ []) ∷ [])

-- A watch of the most items lacks room for its make: of three idle ones the one goes whose last request lies farthest back.
abbrev pub IdlestGives : Type 0
IdlestGives = left_by_make (hourly 9 (items_but 4_000) ∷ hourly 7 (items 2_048) ∷ hourly 8 (items 100) ∷ []) 60_010 ≡ 1 ∷ 3 ∷ 4 ∷ []

-- of several such the one with the least number
abbrev pub FirstGives : Type 0
FirstGives = left_by_make (hourly 7 (items 2_048) ∷ hourly 7 (items_but 4_000) ∷ hourly 8 (items 100) ∷ []) 60_010 ≡ 2 ∷ 3 ∷ 4 ∷ []

-- as long as there is no room, and no longer: one without items makes none
abbrev pub MoreGive : Type 0
MoreGive = left_by_make (hourly 7 [] ∷ hourly 8 (items 2_048) ∷ hourly 9 (items_but 4_000) ∷ []) 60_010 ≡ 3 ∷ 4 ∷ []

-- one asked of a minute ago gives way to none, even where there is no room; a make is refused at a thousand alone
abbrev pub NoneGives : Type 0
NoneGives = left_by_make (hourly 10 (items_but 0) ∷ []) 60_010 ≡ 1 ∷ 2 ∷ []

-- where there is room no idle one gives way
abbrev pub RoomForAll : Type 0
RoomForAll = left_by_make (hourly 0 (items_but 2_048) ∷ []) 3_000_000 ≡ 1 ∷ 2 ∷ []

-- room for all bytes that one may have is looked at, too
abbrev pub BytesGive : Type 0
BytesGive = left_by_make (hourly 0 (of_bytes 14_680_065) ∷ []) 60_001 ≡ 2 ∷ []

-- the history alone: how many rolled off, and the kept ones
abbrev pub with_history : ℕ → List Event → Nodes
with_history gone kept = record { nodes = []; kept = kept; gone = gone; capacity = 1 }

-- Of two events since, both of which the filter passes, the first rolled off: who holds the second alone and has missed
-- none doesn't hold the feed.
abbrev pub UntoldIsNotHeld : Type 0
UntoldIsNotHeld =
    HoldsFeed small (with_history 1 (event 6 2 ∷ [])) (with_history 0 []) (λ e. (e ≡ event 5 1) ⊎ (e ≡ event 6 2)) feed_path 5 (Lists [] 0 (event 6 2 ∷ [])) → ⊥
