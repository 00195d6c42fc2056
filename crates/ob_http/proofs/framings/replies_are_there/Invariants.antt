use Rattle.std.proofs.Common.{ℕ, length}
use Rattle.ob_http.specs.Replies.{HasReplies}
use Rattle.ob_http.proofs.framings.replies_are_there.Given as goal

abbrev pub invariant-replies : goal.invariant-replies
invariant-replies l = ((place : ℕ) → HasReplies place l.rest) → (place : ℕ) → HasReplies place l.bytes

abbrev pub decreases-replies : goal.decreases-replies
decreases-replies l = length l.rest
