-- Laws of framing.
use Rattle.std.specs.Prelude.{◌≡◌, ◌≢◌, ℕ, List, ◌++◌}
use Rattle.ob_http.specs.Request.{Request}
use Rattle.ob_http.specs.Requests.{FramedFrom, HasFraming}
use Rattle.ob_http.specs.Reply.{Response}
use Rattle.ob_http.specs.Replies.{Replied, HasReplies}
use Rattle.ob_http.specs.Stream.{End, resting}

-- bytes have one framing
abbrev pub FramingIsOne : Type 0
FramingIsOne =
    (place : ℕ) (bytes : List ℕ) (rs ss : List Request) (a b : End)
    → FramedFrom place bytes rs a → FramedFrom place bytes ss b → (rs ≡ ss) × (a ≡ b)

-- a framing that is at its end stays, whatever bytes follow
abbrev pub EndStays : Type 0
EndStays =
    (place : ℕ) (bytes more : List ℕ) (requests : List Request) (end : End) → ((rest : List ℕ) → end ≢ resting rest)
    → FramedFrom place bytes requests end → FramedFrom place (bytes ++ more) requests end

-- the same of replies
abbrev pub RepliesAreOne : Type 0
RepliesAreOne =
    (bytes : List ℕ) (rs ss : List Response) (a b : End) → Replied bytes rs a → Replied bytes ss b → (rs ≡ ss) × (a ≡ b)

abbrev pub ReplyEndStays : Type 0
ReplyEndStays =
    (bytes more : List ℕ) (replies : List Response) (end : End) → ((rest : List ℕ) → end ≢ resting rest)
    → Replied bytes replies end → Replied (bytes ++ more) replies end

-- no list of bytes is without a framing, however long it is
abbrev pub NoneIsUnframed : Type 0
NoneIsUnframed = (place : ℕ) (bytes : List ℕ) → ¬ (¬ (HasFraming place bytes))

abbrev pub NoReplyIsUnframed : Type 0
NoReplyIsUnframed = (place : ℕ) (bytes : List ℕ) → ¬ (¬ (HasReplies place bytes))
