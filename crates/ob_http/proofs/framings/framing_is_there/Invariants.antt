use Rattle.std.proofs.Common.{ℕ, length}
use Rattle.ob_http.specs.Requests.{HasFraming}
use Rattle.ob_http.proofs.framings.framing_is_there.Given as goal

abbrev pub invariant-requests : goal.invariant-requests
invariant-requests l = ((place : ℕ) → HasFraming place l.rest) → (place : ℕ) → HasFraming place l.bytes

abbrev pub decreases-requests : goal.decreases-requests
decreases-requests l = length l.rest
