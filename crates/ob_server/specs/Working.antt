-- What a worker does with the links of its door.
use Rattle.std.specs.Prelude.{◌≡◌, if◌then◌else◌, ◌⊎◌, ⊤, ℕ, ◌+◌, ◌-◌, ◌^◌, ◌≤◌, ◌<◌, Bool, true, false, List, [], ◌∷◌, ◌++◌, map, length, Option, Some, None}
use Rattle.std.specs.List.{flat_map}
use Rattle.ob_io.specs.Faults.{Rose}
use Rattle.ob_io.specs.Ticks.{Pace}
use Rattle.ob_io.specs.Told.{Gains}
use Rattle.ob_io.specs.Visits.{Visit}
use Rattle.ob_http.specs.declared.fault.FrameFault.{FrameFault}
use Rattle.ob_http.specs.Request.{Request}
use Rattle.ob_http.specs.Requests.{Framed}
use Rattle.ob_http.specs.Stream.{resting, closing, faulted}
use Rattle.ob_object.specs.Object.{Object}
use Rattle.ob_site_rules.specs.declared.request.Request.{Request as Asked}
use Rattle.ob_turn.specs.Standing.{mine}
use Rattle.ob_server.specs.Passes.{Continues}
use Rattle.ob_server.specs.Exchange.{Call}
use Rattle.ob_server.specs.Answered.{Answered}
use Rattle.ob_server.specs.Complete.{AnswersAll}
use Rattle.ob_server.specs.declared.end.LinkEnd.{LinkEnd}
use Rattle.ob_server.specs.declared.end.LinkEnd.TheVariants as ends
use Rattle.ob_server.specs.declared.worker.WorkerEnd.{WorkerEnd}
use Rattle.ob_server.specs.declared.worker.WorkerEnd.TheVariants as workers
use Rattle.ob_server.specs.declared.worker.Worker.{Worker}
use Rattle.ob_server.specs.declared.worker.Next.{Next}
use Rattle.ob_server.specs.declared.worker.Next.TheVariants as nexts

-- ---- one link

-- a link that was served: what came back to its door, how its service ended, and the calls made and moments given for it
pub record ServedLink : Type 0 where
  pub visit : Visit
  pub end : LinkEnd
  pub calls : List Call
  pub moments : List ℕ

-- a fault of the link is counted there
abbrev pub EndCounts : LinkEnd → ℕ → ℕ → Type 0
EndCounts ends.Closed reads writes = ⊤
EndCounts ends.Asked reads writes = ⊤
EndCounts ends.Truncated reads writes = ⊤
EndCounts (ends.BadFrame fault at) reads writes = ⊤
EndCounts ends.ReadFault reads writes = 0 < reads
EndCounts ends.WriteFault reads writes = 0 < writes
EndCounts ends.ClockFault reads writes = ⊤
EndCounts ends.Budget reads writes = ⊤
EndCounts ends.Memory reads writes = ⊤

-- the bytes that a link had: those that were taken from it, and those that are left
abbrev pub bytes_of : Visit → List ℕ
bytes_of v = v.taken ++ v.left

-- Where they are whole requests, up to one that closes, and fewer than 2^40, and the link counts no fault, all of these
-- requests were answered, and nothing else was; but where memory was wanting, or the clock told no moment.
abbrev pub AnswersWhole : Option (List ℕ) → ServedLink → Type 0
AnswersWhole ns s =
    (requests : List Request)
    → (Framed (bytes_of s.visit) requests (resting []) ⊎ Framed (bytes_of s.visit) requests closing)
    → length (bytes_of s.visit) < 2 ^ 40 → s.visit.reads ≡ 0 → s.visit.writes ≡ 0
    → (((s.end ≡ ends.Closed) ⊎ (s.end ≡ ends.Asked)) × AnswersAll ns requests s.visit.written s.calls s.moments)
    ⊎ ((s.end ≡ ends.ClockFault) ⊎ (s.end ≡ ends.Memory))

-- its requests were answered, as far as its end says, and a fault at its end is counted
pub record IsServed (ns : Option (List ℕ)) (s : ServedLink) : Type 0 where
  pub answered : Answered ns s.visit.taken s.visit.written s.calls s.moments (Some s.visit.left) s.end
  pub counted : EndCounts s.end s.visit.reads s.visit.writes
  pub whole : AnswersWhole ns s

-- each of them was
abbrev pub AreServed : Option (List ℕ) → List ServedLink → Type 0
AreServed ns [] = ⊤
AreServed ns (s ∷ served) = IsServed ns s × AreServed ns served

-- the end of the worker at which a link's end brings it, if it does
abbrev pub stops_with : LinkEnd → Option WorkerEnd
stops_with ends.Closed = None
stops_with ends.Asked = None
stops_with ends.Truncated = None
stops_with (ends.BadFrame fault at) = None
stops_with ends.ReadFault = None
stops_with ends.WriteFault = None
stops_with ends.ClockFault = Some workers.ClockFault
stops_with ends.Budget = None
stops_with ends.Memory = Some workers.Memory

-- whether a link's end brings the worker to its end: want of memory may leave it going, where it stays
abbrev pub Stops : Bool → LinkEnd → Option WorkerEnd → Type 0
Stops stays end None = (stops_with end ≡ None) ⊎ ((stays ≡ true) × (end ≡ ends.Memory))
Stops stays end (Some stop) = stops_with end ≡ Some stop

-- why a worker is done with a link and goes on to the next: nothing is left in it, a request closed it or was refused,
-- so many bytes were taken, or a fault is counted
abbrev pub MayGoBack : Visit → Type 0
MayGoBack v =
    (v.left ≡ [])
    ⊎ (((requests : List Request) × Framed v.taken requests closing)
    ⊎ (((requests : List Request) × (fault : FrameFault) × (at : ℕ) × Framed v.taken requests (faulted fault at))
    ⊎ ((length v.taken ≡ 2 ^ 40) ⊎ ((0 < v.reads) ⊎ (0 < v.writes)))))

-- after this link the worker went on: it was done with the link; or memory was wanting, and it stays
abbrev pub GoesOn : Bool → ServedLink → Type 0
GoesOn stays s = ((stops_with s.end ≡ None) × MayGoBack s.visit) ⊎ ((stays ≡ true) × (s.end ≡ ends.Memory))

-- after each of these links it did
abbrev pub AllGoOn : Bool → List ServedLink → Type 0
AllGoOn stays [] = ⊤
AllGoOn stays (s ∷ served) = GoesOn stays s × AllGoOn stays served

-- ---- several links

-- what is told of a worker's door and clock, and the calls of its pass
pub record Post : Type 0 where
  pub visits : Option (List Visit)
  pub handed : ℕ
  pub returned : ℕ
  pub given : Option (List ℕ)
  pub calls : List Call

abbrev pub post : Option (List Visit) → ℕ → ℕ → Option (List ℕ) → List Call → Post
post visits handed returned given calls =
    record { visits = visits; handed = handed; returned = returned; given = given; calls = calls }

-- the number went up by n, unless it stands at the last value of a u64
abbrev pub Counts : ℕ → ℕ → ℕ → Type 0
Counts old n new = (new ≡ old + n) ⊎ (2 ^ 64 - 1 ≤ new)

-- from the one to the other these links were handed out, served and taken back, in this order
pub record Did (old : Post) (served : List ServedLink) (new : Post) : Type 0 where
  pub visited : Gains old.visits (map (λ s. s.visit) served) new.visits
  pub handed : Counts old.handed (length served) new.handed
  pub returned : Counts old.returned (length served) new.returned
  pub gave : Gains old.given (flat_map (λ s. s.moments) served) new.given
  pub called : new.calls ≡ old.calls ++ flat_map (λ s. s.calls) served

-- the first list is the second, in its order, with some left out
abbrev pub IsSelection : List ℕ → List ℕ → Type 0
IsSelection [] ys = ⊤
IsSelection (x ∷ xs) [] = ⊥
IsSelection (x ∷ xs) (y ∷ ys) = ((x ≡ y) × IsSelection xs ys) ⊎ IsSelection (x ∷ xs) ys

-- the moments of calls
abbrev pub moments_in : List Call → List ℕ
moments_in calls = map (λ c. c.moment) calls

-- ---- one turn

-- a link was served and taken back, or none was handed out
abbrev pub DidNext : Option (List ℕ) → Post → Post → Next → Type 0
DidNext ns old new (nexts.Link end) = (s : ServedLink) × IsServed ns s × (s.end ≡ end) × Did old (s ∷ []) new
DidNext ns old new nexts.Closed = Did old [] new
DidNext ns old new nexts.Fault = Did old [] new

-- how it came to what the worker met
abbrev pub NextComes : Next → Bool → ℕ → ℕ → ℕ → ℕ → Type 0
NextComes (nexts.Link ends.ClockFault) closed doors doors' clocks clocks' = Rose clocks clocks'
NextComes (nexts.Link end) closed doors doors' clocks clocks' = ⊤
NextComes nexts.Closed closed doors doors' clocks clocks' = closed ≡ true
NextComes nexts.Fault closed doors doors' clocks clocks' = Rose doors doors'

-- ---- a worker

-- the last link, where it ended the work
abbrev pub IsFinal : List ServedLink → WorkerEnd → Type 0
IsFinal final workers.Quota = final ≡ []
IsFinal final workers.Closed = final ≡ []
IsFinal final workers.DoorFault = final ≡ []
IsFinal final workers.ClockFault = (s : ServedLink) × (final ≡ s ∷ []) × (s.end ≡ ends.ClockFault)
IsFinal final workers.Memory = (s : ServedLink) × (final ≡ s ∷ []) × (s.end ≡ ends.Memory)

-- The links of one worker were served one after the other, each with its own part of the worker's calls, whose moments
-- the worker's clock gave.
pub record Worked (ns : Option (List ℕ)) (stays : Bool) (old new : Post) (links : ℕ) (end : WorkerEnd) : Type 0 where
  pub before : List ServedLink
  pub final : List ServedLink
  pub served : AreServed ns (before ++ final)
  pub went_on : AllGoOn stays before
  pub ended : IsFinal final end
  pub did : Did old (before ++ final) new
  pub count : links ≡ length (before ++ final)
  pub drawn : IsSelection (moments_in (flat_map (λ s. s.calls) (before ++ final)))
      (flat_map (λ s. s.moments) (before ++ final))

-- how a worker came to its end: it had its quota, its door is closed, or the count of its door or clock rose
abbrev pub EndComes : WorkerEnd → ℕ → ℕ → Bool → ℕ → ℕ → ℕ → ℕ → Type 0
EndComes workers.Quota links quota closed doors doors' clocks clocks' = links ≡ quota
EndComes workers.Closed links quota closed doors doors' clocks clocks' = closed ≡ true
EndComes workers.DoorFault links quota closed doors doors' clocks clocks' = Rose doors doors'
EndComes workers.ClockFault links quota closed doors doors' clocks clocks' = Rose clocks clocks'
EndComes workers.Memory links quota closed doors doors' clocks clocks' = ⊤

-- where door and clock count no fault, only these ends are left
abbrev pub WorksWhole : WorkerEnd → ℕ → ℕ → ℕ → ℕ → Type 0
WorksWhole end doors doors' clocks clocks' =
    ¬ (Rose doors doors') → ¬ (Rose clocks clocks')
    → (end ≡ workers.Quota) ⊎ ((end ≡ workers.Closed) ⊎ (end ≡ workers.Memory))

-- A worker's run, where visits, handed, returned, closed and doors say what is told of its door, and given, pace and
-- clocks what is told of its clock.
pub record WorkerRan {S D C : Type 0} (act : S → Asked → ℕ → S × Object) (visits : D → Option (List Visit))
    (handed returned : D → ℕ) (closed : D → Bool) (doors : D → ℕ) (given : C → Option (List ℕ)) (pace : C → Option Pace)
    (clocks : C → ℕ) (ns : Option (List ℕ)) (opening : S) (quota : ℕ) (stays : Bool) (old new : Worker S D C Asked Object) : Type 0 where
  pub worked : Worked ns stays
      (post (visits old.door) (handed old.door) (returned old.door) (given old.clock) (mine old.pass))
      (post (visits new.door) (handed new.door) (returned new.door) (given new.clock) (mine new.pass)) new.links new.end
  pub pass : Continues act opening old.pass new.pass
  pub pace_is : pace new.clock ≡ pace old.clock
  pub within : new.links ≤ quota
  pub doors_later : doors old.door ≤ doors new.door
  pub clocks_later : clocks old.clock ≤ clocks new.clock
  pub comes : EndComes new.end new.links quota (closed new.door) (doors old.door) (doors new.door) (clocks old.clock) (clocks new.clock)
  pub whole : WorksWhole new.end (doors old.door) (doors new.door) (clocks old.clock) (clocks new.clock)
  -- a worker that could have stayed, and ended for want of memory, has closed its door
  pub closes : stays ≡ true → new.end ≡ workers.Memory → closed new.door ≡ true

-- All that a worker did since its door and clock were new, where these tell it; its clock goes at this pace.
pub record HasWorked {S D C : Type 0} (handed returned : D → ℕ) (visits : D → Option (List Visit)) (given : C → Option (List ℕ))
    (pace : C → Option Pace) (ns : Option (List ℕ)) (stays : Bool) (goes : Option Pace) (w : Worker S D C Asked Object) : Type 0 where
  pub worked : Worked ns stays (post (Some []) 0 0 (Some []) [])
      (post (visits w.door) (handed w.door) (returned w.door) (given w.clock) (mine w.pass)) w.links w.end
  pub pace_is : pace w.clock ≡ goes

-- how it came to its end
pub record HasEnded {S D C : Type 0} (doors : D → ℕ) (closed : D → Bool) (clocks : C → ℕ) (quota : ℕ)
    (w : Worker S D C Asked Object) : Type 0 where
  pub within : w.links ≤ quota
  pub comes : EndComes w.end w.links quota (closed w.door) 0 (doors w.door) 0 (clocks w.clock)
  pub whole : WorksWhole w.end 0 (doors w.door) 0 (clocks w.clock)

-- it had its quota of links, or its door is closed
abbrev pub IsDone : {S D C : Type 0} → (D → Bool) → ℕ → Worker S D C Asked Object → Type 0
IsDone closed quota w =
    ((w.end ≡ workers.Quota) × (w.links ≡ quota)) ⊎ ((w.end ≡ workers.Closed) × (closed w.door ≡ true))

-- it served no link
abbrev pub IsIdle : {S D C : Type 0} → Worker S D C Asked Object → Type 0
IsIdle w = w.links ≡ 0

-- ---- all workers

-- the end is neither a quota had nor a closed door
abbrev pub is_fault : WorkerEnd → Bool
is_fault workers.Quota = false
is_fault workers.Closed = false
is_fault workers.DoorFault = true
is_fault workers.ClockFault = true
is_fault workers.Memory = true

-- the first end that is neither, or else the quota
abbrev pub first_end : {S D C : Type 0} → List (Worker S D C Asked Object) → WorkerEnd
first_end [] = workers.Quota
first_end (w ∷ rest) = if is_fault w.end then w.end else first_end rest
