-- The requests that the bytes of a client spell, in whatever pieces they come.
use Rattle.std.specs.Prelude.{◌≡◌, ◌⊎◌, ℕ, ◌+◌, ◌^◌, ◌<◌, List, [], ◌∷◌, ◌++◌, length, MatchBool, Option, Some, None, Result, Ok, Err}
use Rattle.ob_http.specs.declared.fault.FrameFault.{FrameFault}
use Rattle.ob_http.specs.declared.fault.FrameFault.TheVariants.{Memory}
use Rattle.ob_http.specs.declared.asked.Asked.{Asked}
use Rattle.ob_http.specs.declared.seen.Seen.{Seen}
use Rattle.ob_http.specs.Message.{Front, whole, refused, unfinished}
use Rattle.ob_http.specs.Request.{Request, Stands}
use Rattle.ob_http.specs.Stream.{End, resting, closing, faulted, FramedBy, HasFramingBy, AreFirstBy, IsTakenBy, Received, behind}

abbrev pub FramedFrom : ℕ → List ℕ → List Request → End → Type 0
FramedFrom place bytes requests end = FramedBy Stands (λ r. r.close) place bytes requests end

-- the bytes are these requests and this end
abbrev pub Framed : List ℕ → List Request → End → Type 0
Framed bytes requests end = FramedFrom 0 bytes requests end

-- the bytes, of which the first have this place in the stream, are some requests and an end
abbrev pub HasFraming : ℕ → List ℕ → Type 0
HasFraming place bytes = HasFramingBy Stands (λ r. r.close) place bytes

-- whatever bytes follow, the stream's first requests are these
abbrev pub AreFirst : List ℕ → List Request → Type 0
AreFirst stream requests = AreFirstBy Stands (λ r. r.close) stream requests

-- of the stream's bytes these requests were taken, none of which asks for close, and the rest is held
abbrev pub IsTaken : List ℕ → List Request → Received → Type 0
IsTaken stream requests held = IsTakenBy Stands (λ r. r.close) stream requests held

-- the stream's length stays within its numbers
abbrev pub IsShort : Received → Type 0
IsShort r = r.place + length r.kept < 2 ^ 63

-- ---- requests that are lent, and requests of their own

abbrev pub seen_request : Seen → Request
seen_request seen = record {
  method = seen.method.now;
  target = seen.target.now;
  close = seen.close;
  media = seen.media;
  body = seen.body.now;
}

abbrev pub asked_request : Asked → Request
asked_request asked = record {
  method = asked.method;
  target = asked.target;
  close = asked.close;
  media = asked.media;
  body = asked.body;
}

-- what an answer says of the front of the bytes
abbrev pub front_of : Result (Option Seen) FrameFault → Front Request
front_of (Ok (Some seen)) = whole (seen_request seen) seen.len
front_of (Ok None) = unfinished
front_of (Err fault) = refused fault

-- ---- what the calls say

-- what was taken from there; what is no whole request stays
abbrev pub Takes : Received → Received → Result (Option Asked) FrameFault → Type 0
Takes old new (Ok (Some asked)) =
    (len : ℕ) × Stands old.kept (whole (asked_request asked) len) × (new ≡ behind len old)
Takes old new (Ok None) = Stands old.kept unfinished × (new ≡ old)
Takes old new (Err fault) = (Stands old.kept (refused fault) ⊎ (fault ≡ Memory)) × (new ≡ old)

-- this request comes next in the stream, and then the rest is held
abbrev pub Follows : List ℕ → List Request → Request → Received → Type 0
Follows stream requests request held =
    AreFirst stream (requests ++ request ∷ [])
    × MatchBool request.close (Framed stream (requests ++ request ∷ []) closing)
    (IsTaken stream (requests ++ request ∷ []) held)

-- what a look tells of the whole stream
abbrev pub SeesNext : List ℕ → List Request → Received → Result (Option Seen) FrameFault → Type 0
SeesNext stream requests held (Ok (Some seen)) =
    Follows stream requests (seen_request seen) (behind seen.len held)
SeesNext stream requests held (Ok None) = Framed stream requests (resting held.kept)
SeesNext stream requests held (Err fault) = Framed stream requests (faulted fault held.place)

-- what a take tells of the whole stream
abbrev pub TakesNext : List ℕ → List Request → Received → Received → Result (Option Asked) FrameFault → Type 0
TakesNext stream requests old new (Ok (Some asked)) = Follows stream requests (asked_request asked) new
TakesNext stream requests old new (Ok None) = Framed stream requests (resting old.kept) × (new ≡ old)
TakesNext stream requests old new (Err fault) =
    (Framed stream requests (faulted fault old.place) ⊎ (fault ≡ Memory)) × (new ≡ old)
