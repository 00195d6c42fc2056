-- The next request of a stream, and how it is to be answered.
use Rattle.std.specs.Prelude.{◌≡◌, ◌⊎◌, ℕ, ◌≤◌, ◌<◌, List, length, Option, Some, None, Result, Ok, Err}
use Rattle.ob_http.specs.declared.fault.FrameFault.{FrameFault}
use Rattle.ob_http.specs.declared.fault.FrameFault.TheVariants.{Memory}
use Rattle.ob_http.specs.Request.{Request, body_limit}
use Rattle.ob_http.specs.Requests.{Framed, IsTaken, Follows}
use Rattle.ob_http.specs.Stream.{Received, resting, faulted, behind}
use Rattle.ob_server.specs.Exchange.{SortsTo}
use Rattle.ob_server.specs.declared.next.Next.{Next}

-- the request that stood at the front was taken, and is to be answered so
pub record IsNext (old new : Received) (next : Next) : Type 0 where
  pub request : Request
  pub sorts : SortsTo request next.sorted
  pub closes : request.close ≡ next.close
  pub short : length request.body ≤ body_limit
  pub follows : (stream : List ℕ) (requests : List Request) → IsTaken stream requests old
      → Follows stream requests request new
  pub len : ℕ
  pub some : 0 < len
  pub within : len ≤ length old.kept
  pub dropped : new ≡ behind len old

-- nothing was taken, and this is how the stream goes on
pub record IsAtRest (old new : Received) : Type 0 where
  pub same : new ≡ old
  pub rests : (stream : List ℕ) (requests : List Request) → IsTaken stream requests old
      → Framed stream requests (resting old.kept)

-- nothing was taken, since a fault comes next, or for want of memory
pub record IsFaulted (old new : Received) (fault : FrameFault) : Type 0 where
  pub same : new ≡ old
  pub faults : (stream : List ℕ) (requests : List Request) → IsTaken stream requests old
      → Framed stream requests (faulted fault old.place) ⊎ (fault ≡ Memory)

-- what taking the next request tells
abbrev pub SortsNext : Received → Received → Result (Option Next) FrameFault → Type 0
SortsNext old new (Ok (Some next)) = IsNext old new next
SortsNext old new (Ok None) = IsAtRest old new
SortsNext old new (Err fault) = IsFaulted old new fault
