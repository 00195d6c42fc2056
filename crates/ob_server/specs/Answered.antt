-- What is written for the bytes that are taken from a link.
use Rattle.std.specs.Prelude.{◌≡◌, if◌then◌else◌, ◌≢◌, ◌⊎◌, ⊤, ℕ, ◌+◌, ◌^◌, Bool, List, [], ◌∷◌, ◌++◌, length, Option, Result, Ok, Err, IfErr, ◌≤◌, ◌<◌}
use Rattle.std.specs.Io.KnownBytes.{IsAtEnd}
use Rattle.ob_io.specs.Told.{IsFront}
use Rattle.ob_io.specs.Links.{Inlet, Takes}
use Rattle.ob_io.specs.Faults.{Rose}
use Rattle.ob_http.specs.declared.fault.FrameFault.{FrameFault}
use Rattle.ob_http.specs.declared.fault.FrameFault.TheVariants as faults
use Rattle.ob_http.specs.Answer.{refusal_text}
use Rattle.ob_http.specs.Request.{Request}
use Rattle.ob_http.specs.Requests.{Framed, AreFirst, IsTaken}
use Rattle.ob_http.specs.Stream.{Received, resting, closing, faulted}
use Rattle.ob_server.specs.Exchange.{Exchange, Call, Had, Went, IsExchange, HasAnswer, AreAnswered, request_of, moment_of, calls_in, answer_to, requests_of, moments_of, calls_of, answers_to}
use Rattle.ob_server.specs.declared.end.LinkEnd.{LinkEnd}
use Rattle.ob_server.specs.declared.end.LinkEnd.TheVariants as ends
use Rattle.ob_server.specs.declared.end.Break.{Break}
use Rattle.ob_server.specs.declared.end.Break.TheVariants as breaks
use Rattle.ob_server.specs.declared.end.Pause.{Pause}
use Rattle.ob_server.specs.declared.end.Pause.TheVariants as pauses
use Rattle.ob_server.specs.declared.end.Stop.{Stop}
use Rattle.ob_server.specs.declared.end.Stop.TheVariants as stops

-- The request at which the service broke off, if it came so far that it is an exchange.
abbrev pub IsLast : List Exchange → Type 0
IsLast [] = ⊤
IsLast (x ∷ xs) = IsExchange x × (xs ≡ [])

-- After the complete answers a prefix of the next answer was written, or of the refusal of what comes next.
pub record BreaksOff (ns : Option (List ℕ)) (taken : List ℕ) (done last : List Exchange) (tail : List ℕ) : Type 0 where
  pub one : IsLast last
  pub first : AreFirst taken (requests_of (done ++ last))
  pub front : IsFront tail (answers_to ns last)
      ⊎ ((last ≡ []) × ((fault : FrameFault) × (at : ℕ) × Framed taken (requests_of done) (faulted fault at)
      × IsFront tail (refusal_text fault)))

-- nothing stands behind the answers
abbrev pub IsWhole : List Exchange → List ℕ → Type 0
IsWhole last tail = (last ≡ []) × (tail ≡ [])

-- How the bytes taken, those left, and what stands behind the answers go with the end.
abbrev pub EndsAs : Option (List ℕ) → LinkEnd → List ℕ → Option (List ℕ) → List Exchange → List Exchange → List ℕ
    → Type 0
EndsAs ns ends.Closed taken left done last tail =
    Framed taken (requests_of done) (resting []) × IsAtEnd left × IsWhole last tail
EndsAs ns ends.Asked taken left done last tail =
    Framed taken (requests_of done) closing × IsWhole last tail
EndsAs ns ends.Truncated taken left done last tail =
    (rest : List ℕ) × (rest ≢ []) × Framed taken (requests_of done) (resting rest) × IsAtEnd left × IsWhole last tail
EndsAs ns (ends.BadFrame fault at) taken left done last tail =
    Framed taken (requests_of done) (faulted fault at) × (fault ≢ faults.Memory) × (last ≡ [])
    × (tail ≡ refusal_text fault)
EndsAs ns ends.ReadFault taken left done last tail =
    (rest : List ℕ) × Framed taken (requests_of done) (resting rest) × IsWhole last tail
EndsAs ns ends.Budget taken left done last tail =
    (rest : List ℕ) × Framed taken (requests_of done) (resting rest) × (length taken ≡ 2 ^ 40) × IsWhole last tail
EndsAs ns ends.WriteFault taken left done last tail = BreaksOff ns taken done last tail
EndsAs ns ends.ClockFault taken left done last tail = BreaksOff ns taken done last tail
EndsAs ns ends.Memory taken left done last tail = BreaksOff ns taken done last tail

-- The requests of the bytes taken were answered one after the other, as far as the end says.
pub record Answered (ns : Option (List ℕ)) (taken written : List ℕ) (calls : List Call) (moments : List ℕ)
    (left : Option (List ℕ)) (end : LinkEnd) : Type 0 where
  pub done : List Exchange
  pub last : List Exchange
  pub tail : List ℕ
  pub answered : AreAnswered done
  pub written_is : written ≡ answers_to ns done ++ tail
  pub calls_are : calls ≡ calls_of (done ++ last)
  pub moments_are : moments ≡ moments_of (done ++ last)
  pub ends : EndsAs ns end taken left done last tail

-- From the one to the other these bytes were taken from the link, and their requests answered as the end says.
pub record Serves (ns : Option (List ℕ)) (before after : Inlet) (old new : Had) (end : LinkEnd) : Type 0 where
  pub taken : List ℕ
  pub written : List ℕ
  pub moments : List ℕ
  pub calls : List Call
  pub consumed : Takes before after taken
  pub went : Went old written moments calls new
  pub answered : Answered ns taken written calls moments after.left end
  pub few : length moments ≤ 2 ^ 40

-- ---- one request

-- It was answered, or the service broke off before or in it.
abbrev pub AnswersOne : Option (List ℕ) → Request → Had → Had → Result (Unit {0}) Break → Type 0
AnswersOne ns request old new (Ok done) =
    (x : Exchange) × IsExchange x × HasAnswer x × (request_of x ≡ request)
    × Went old (answer_to ns x) (moment_of x ∷ []) (calls_in x) new
AnswersOne ns request old new (Err broken) =
    (last : List Exchange) × (tail : List ℕ) × IsLast last × ((last ≡ []) ⊎ (requests_of last ≡ request ∷ []))
    × IsFront tail (answers_to ns last) × Went old tail (moments_of last) (calls_of last) new

-- ---- the requests that a framer holds

-- how the stream goes on, or ends, behind the requests that were answered
abbrev pub StopsAs : Option (List ℕ) → Result (Unit {0}) Stop → List ℕ → List Request → Received → List Exchange
    → List Exchange → List ℕ → Type 0
StopsAs ns (Ok going_on) stream before held done last tail =
    IsTaken stream (before ++ requests_of done) held × Framed stream (before ++ requests_of done) (resting held.kept)
StopsAs ns (Err stops.Asked) stream before held done last tail =
    Framed stream (before ++ requests_of done) closing
StopsAs ns (Err (stops.BadFrame fault)) stream before held done last tail =
    Framed stream (before ++ requests_of done) (faulted fault held.place)
StopsAs ns (Err (stops.Broke broken)) stream before held done last tail =
    AreFirst stream (before ++ requests_of (done ++ last))
    × (IsFront tail (answers_to ns last)
    ⊎ ((last ≡ []) × ((fault : FrameFault) × Framed stream (before ++ requests_of done) (faulted fault held.place)
    × IsFront tail (refusal_text fault))))

-- what stands behind the answers
abbrev pub TailAs : Result (Unit {0}) Stop → List Exchange → List ℕ → Type 0
TailAs (Ok going_on) last tail = IsWhole last tail
TailAs (Err stops.Asked) last tail = IsWhole last tail
TailAs (Err (stops.BadFrame fault)) last tail = (fault ≢ faults.Memory) × (last ≡ []) × (tail ≡ refusal_text fault)
TailAs (Err (stops.Broke broken)) last tail = IsLast last

-- The whole requests that were held are answered, whatever was taken before them.
pub record AnswersHeld (ns : Option (List ℕ)) (old new : Received) (before after : Had) (result : Result (Unit {0}) Stop)
    : Type 0 where
  pub done : List Exchange
  pub last : List Exchange
  pub tail : List ℕ
  pub answered : AreAnswered done
  pub went : Went before (answers_to ns done ++ tail) (moments_of (done ++ last)) (calls_of (done ++ last)) after
  pub tail_is : TailAs result last tail
  pub stops : (stream : List ℕ) (requests : List Request) → IsTaken stream requests old
      → StopsAs ns result stream requests new done last tail
  pub size : new.place + length new.kept ≡ old.place + length old.kept
  pub few : length (done ++ last) + old.place ≤ new.place

-- ---- faults

-- the count of what broke rose
abbrev pub BreakRose : Break → ℕ → ℕ → ℕ → ℕ → Type 0
BreakRose breaks.WriteFault writes writes' clocks clocks' = Rose writes writes'
BreakRose breaks.ClockFault writes writes' clocks clocks' = Rose clocks clocks'
BreakRose breaks.Memory writes writes' clocks clocks' = ⊤

-- the counts of faults have not fallen, and a break comes only where its own rose
pub record HasBreakCause {T : Type 0} (writes writes' clocks clocks' : ℕ) (result : Result T Break) : Type 0 where
  pub writes_later : writes ≤ writes'
  pub clocks_later : clocks ≤ clocks'
  pub rose : IfErr result (λ broken. BreakRose broken writes writes' clocks clocks')

-- where the service broke off, its count rose
abbrev pub StopRose : Stop → ℕ → ℕ → ℕ → ℕ → Type 0
StopRose stops.Asked writes writes' clocks clocks' = ⊤
StopRose (stops.BadFrame fault) writes writes' clocks clocks' = ⊤
StopRose (stops.Broke broken) writes writes' clocks clocks' = BreakRose broken writes writes' clocks clocks'

-- the counts of faults have not fallen, and the service breaks off only where the count of that rose
pub record HasStopCause {T : Type 0} (writes writes' clocks clocks' : ℕ) (result : Result T Stop) : Type 0 where
  pub writes_later : writes ≤ writes'
  pub clocks_later : clocks ≤ clocks'
  pub rose : IfErr result (λ stop. StopRose stop writes writes' clocks clocks')

-- where the end is a fault, its count rose
abbrev pub EndRose : LinkEnd → ℕ → ℕ → ℕ → ℕ → ℕ → ℕ → Type 0
EndRose ends.Closed reads reads' writes writes' clocks clocks' = ⊤
EndRose ends.Asked reads reads' writes writes' clocks clocks' = ⊤
EndRose ends.Truncated reads reads' writes writes' clocks clocks' = ⊤
EndRose (ends.BadFrame fault at) reads reads' writes writes' clocks clocks' = ⊤
EndRose ends.ReadFault reads reads' writes writes' clocks clocks' = Rose reads reads'
EndRose ends.WriteFault reads reads' writes writes' clocks clocks' = Rose writes writes'
EndRose ends.ClockFault reads reads' writes writes' clocks clocks' = Rose clocks clocks'
EndRose ends.Budget reads reads' writes writes' clocks clocks' = ⊤
EndRose ends.Memory reads reads' writes writes' clocks clocks' = ⊤

-- the counts of faults have not fallen, and a fault comes only where its own rose
pub record HasEndCause (reads reads' writes writes' clocks clocks' : ℕ) (end : LinkEnd) : Type 0 where
  pub reads_later : reads ≤ reads'
  pub writes_later : writes ≤ writes'
  pub clocks_later : clocks ≤ clocks'
  pub rose : EndRose end reads reads' writes writes' clocks clocks'

-- ---- one piece

-- a piece of the link went to the framer, which is then so much longer
abbrev pub ReadsPiece : ℕ → Inlet → Inlet → Received → Received → Result ℕ Pause → Type 0
ReadsPiece most before after old new (Ok count) =
    (piece : List ℕ) × Takes before after piece × (length piece ≡ count) × (0 < count) × (count ≤ most)
    × (new ≡ record old { kept = old.kept ++ piece })
    × ((stream : List ℕ) (requests : List Request) → IsTaken stream requests old
    → IsTaken (stream ++ piece) requests new)
ReadsPiece most before after old new (Err pauses.Ended) = Takes before after [] × IsAtEnd after.left × (new ≡ old)
ReadsPiece most before after old new (Err pauses.ReadFault) = Takes before after []
ReadsPiece most before after old new (Err pauses.Memory) = (piece : List ℕ) × Takes before after piece

-- where the read failed, its count rose
abbrev pub PauseRose : Result ℕ Pause → ℕ → ℕ → Type 0
PauseRose (Ok count) reads reads' = ⊤
PauseRose (Err pauses.Ended) reads reads' = ⊤
PauseRose (Err pauses.ReadFault) reads reads' = Rose reads reads'
PauseRose (Err pauses.Memory) reads reads' = ⊤

-- ---- ends

-- the end, where no more requests are answered
abbrev pub end_of : Stop → ℕ → LinkEnd
end_of stops.Asked place = ends.Asked
end_of (stops.BadFrame fault) place = ends.BadFrame fault place
end_of (stops.Broke breaks.WriteFault) place = ends.WriteFault
end_of (stops.Broke breaks.ClockFault) place = ends.ClockFault
end_of (stops.Broke breaks.Memory) place = ends.Memory

-- the end, where no piece was read
abbrev pub end_at : Pause → Bool → LinkEnd
end_at pauses.Ended holds_none = if holds_none then ends.Closed else ends.Truncated
end_at pauses.ReadFault holds_none = ends.ReadFault
end_at pauses.Memory holds_none = ends.Memory
