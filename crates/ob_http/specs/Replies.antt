-- The replies that the bytes of a server spell, in whatever pieces they come.
use Rattle.std.specs.Prelude.{◌≡◌, ◌⊎◌, ℕ, Bool, false, List, [], ◌∷◌, ◌++◌, drop, Option, Some, None, Result, Ok, Err}
use Rattle.ob_http.specs.declared.fault.FrameFault.{FrameFault}
use Rattle.ob_http.specs.declared.fault.FrameFault.TheVariants.{Memory}
use Rattle.ob_http.specs.declared.reply.Reply.{Reply}
use Rattle.ob_http.specs.declared.reply_head.SeenReply.{SeenReply}
use Rattle.ob_http.specs.Message.{Front, whole, refused, unfinished}
use Rattle.ob_http.specs.Reply.{Response, ReplyStands}
use Rattle.ob_http.specs.Stream.{End, resting, faulted, FramedBy, HasFramingBy, AreFirstBy, IsTakenBy}

-- no reply is the last: a server that closes says so by the end of its bytes
abbrev pub never_last : Response → Bool
never_last reply = false

-- the bytes are these replies and this end
abbrev pub Replied : List ℕ → List Response → End → Type 0
Replied bytes replies end = FramedBy ReplyStands never_last 0 bytes replies end

-- the bytes, of which the first have this place in the stream, are some replies and an end
abbrev pub HasReplies : ℕ → List ℕ → Type 0
HasReplies place bytes = HasFramingBy ReplyStands never_last place bytes

-- whatever bytes follow, the stream's first replies are these
abbrev pub AreFirstReplies : List ℕ → List Response → Type 0
AreFirstReplies stream replies = AreFirstBy ReplyStands never_last stream replies

-- of the stream's bytes these replies were taken, and the rest is kept
abbrev pub AreTaken : List ℕ → List Response → List ℕ → Type 0
AreTaken stream replies kept =
    (place : ℕ) × IsTakenBy ReplyStands never_last stream replies (record { place = place; kept = kept })

abbrev pub reply_response : Reply → Response
reply_response reply = record { status = reply.status; body = reply.body }

-- what an answer says of the front of the bytes
abbrev pub reply_front_of : Result (Option SeenReply) FrameFault → Front Response
reply_front_of (Ok (Some seen)) = whole (record { status = seen.status; body = seen.body.now }) seen.len
reply_front_of (Ok None) = unfinished
reply_front_of (Err fault) = refused fault

-- what was taken from there; what is no whole reply stays
abbrev pub TakesReply : List ℕ → List ℕ → Result (Option Reply) FrameFault → Type 0
TakesReply old new (Ok (Some reply)) =
    (len : ℕ) × ReplyStands old (whole (reply_response reply) len) × (new ≡ drop len old)
TakesReply old new (Ok None) = ReplyStands old unfinished × (new ≡ old)
TakesReply old new (Err fault) = (ReplyStands old (refused fault) ⊎ (fault ≡ Memory)) × (new ≡ old)

-- what a take tells of the whole stream
abbrev pub TakesNextReply : List ℕ → List Response → List ℕ → List ℕ → Result (Option Reply) FrameFault → Type 0
TakesNextReply stream replies old new (Ok (Some reply)) =
    AreFirstReplies stream (replies ++ reply_response reply ∷ [])
    × AreTaken stream (replies ++ reply_response reply ∷ []) new
TakesNextReply stream replies old new (Ok None) = Replied stream replies (resting old) × (new ≡ old)
TakesNextReply stream replies old new (Err fault) =
    (((at : ℕ) × Replied stream replies (faulted fault at)) ⊎ (fault ≡ Memory)) × (new ≡ old)
