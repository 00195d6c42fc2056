-- What a call over a session asks and gives.
use Rattle.std.specs.Prelude.{◌≡◌, ◌≢◌, ◌⊎◌, ℕ, Bool, true, false, List, [], ◌∷◌, ◌++◌, Option, Some, None, Result, IfErr}
use Rattle.std.specs.declared.result.Result.TheVariants.{Ok, Err}
use Rattle.std.specs.Io.KnownBytes.{IsAtEnd}
use Rattle.ob_io.specs.Links.{Inlet, Takes}
use Rattle.ob_io.specs.Told.{Gains, IsFront}
use Rattle.ob_object.specs.Object.{Object}
use Rattle.ob_encoding.specs.Canonical.{canonical_text}
use Rattle.ob_documents.specs.Spelling.{Spells}
use Rattle.ob_xml.specs.Judged.{fault, Judged}
use Rattle.ob_xml.specs.declared.refused.Refused.{Refused}
use Rattle.ob_xml.specs.declared.refused.Why.{Why}
use Rattle.ob_xml.specs.declared.refused.Why.TheVariants as why
use Rattle.ob_http.specs.Reply.{Response}
use Rattle.ob_http.specs.Replies.{Replied, AreFirstReplies, AreTaken, reply_response}
use Rattle.ob_http.specs.Stream.{resting, faulted}
use Rattle.ob_http.specs.declared.reply.Reply.{Reply}
use Rattle.ob_http.specs.declared.fault.FrameFault.{FrameFault}
use Rattle.ob_http.specs.declared.fault.FrameFault.TheVariants as frame
use Rattle.ob_client.specs.declared.call_fault.CallFault.{CallFault}
use Rattle.ob_client.specs.declared.call_fault.CallFault.TheVariants.{Link, PeerStatus, PeerDocument, PeerFrame, Ended, Dead, Memory}

-- the body of a request: the canonical text of an object, or nothing
abbrev pub body_text : Option Object → List ℕ
body_text None = []
body_text (Some o) = canonical_text None o

-- the result is this fault
abbrev pub Fails : {T : Type 0} → Result T CallFault → CallFault → Type 0
Fails (Ok x) f = ⊥
Fails (Err e) f = e ≡ f

-- ---- the next reply of the bytes read in a session

-- of the stream this reply was taken behind these, and the rest is kept
abbrev pub HasTaken : List ℕ → List Response → Response → List ℕ → Type 0
HasTaken stream replies r kept =
    AreFirstReplies stream (replies ++ r ∷ []) × AreTaken stream (replies ++ r ∷ []) kept

-- a reply, or why there is none
abbrev pub Comes : List ℕ → List Response → List ℕ → Result Reply CallFault → Type 0
Comes stream replies kept (Ok reply) = HasTaken stream replies (reply_response reply) kept
Comes stream replies kept (Err (PeerFrame f)) = (at : ℕ) × Replied stream replies (faulted f at)
Comes stream replies kept (Err Ended) = Replied stream replies (resting kept)
Comes stream replies kept (Err Link) = Unit {0}
Comes stream replies kept (Err Memory) = Unit {0}
Comes stream replies kept (Err _) = ⊥

-- what the reply tells: the object that its body spells, if its status is 200
abbrev pub Gives : Response → Result Object CallFault → Type 0
Gives r (Ok o) = (r.status ≡ 200) × ((ns : Option (List ℕ)) × Spells r.body ns o)
Gives r (Err (PeerStatus n)) = (r.status ≡ n) × (n ≢ 200)
Gives r (Err (PeerDocument f)) = (r.status ≡ 200) × Judged r.body true (fault f.at f.why)
Gives r (Err Memory) = Unit {0}
Gives r (Err _) = ⊥

-- What a call gives: the next reply's object, or why there is none. `stream` is all that was read in the session,
-- of which earlier calls took these replies.
abbrev pub Answers : List ℕ → List Response → List ℕ → Result Object CallFault → Type 0
Answers stream replies kept (Ok o) = (r : Response) × HasTaken stream replies r kept × Gives r (Ok o)
Answers stream replies kept (Err (PeerStatus n)) = (r : Response) × HasTaken stream replies r kept × Gives r (Err (PeerStatus n))
Answers stream replies kept (Err (PeerDocument f)) = (r : Response) × HasTaken stream replies r kept × Gives r (Err (PeerDocument f))
Answers stream replies kept (Err (PeerFrame f)) = (at : ℕ) × Replied stream replies (faulted f at)
Answers stream replies kept (Err Ended) = Replied stream replies (resting kept)
Answers stream replies kept (Err Link) = Unit {0}
Answers stream replies kept (Err Memory) = Unit {0}
Answers stream replies kept (Err Dead) = ⊥

-- ---- what was read and written

-- These bytes were read, at the end of the link where it ended, and they tell of the stream what comes next.
pub record Reads {T : Type 0} (Tells : List ℕ → List Response → List ℕ → Result T CallFault → Type 0) (before after : Inlet) (old new : List ℕ) (result : Result T CallFault) : Type 0 where
  pub taken : List ℕ
  pub takes : Takes before after taken
  pub tells : (stream : List ℕ) (replies : List Response) → AreTaken stream replies old → Tells (stream ++ taken) replies new result
  pub ended : Fails result Ended → IsAtEnd after.left

-- A front of the request was written, and all of it where there was an answer to it.
pub record Asks {T : Type 0} (before after : Option (List ℕ)) (request : List ℕ) (result : Result T CallFault) : Type 0 where
  pub sent : List ℕ
  pub gained : Gains before sent after
  pub front : IsFront sent request
  pub whole : (sent ≡ request) ⊎ (Fails result Link ⊎ Fails result Memory)

-- no call after it has an answer
abbrev pub is_last : {T : Type 0} → Result T CallFault → Bool
is_last (Ok o) = false
is_last (Err (PeerStatus n)) = false
is_last (Err (PeerDocument f)) = false
is_last (Err _) = true

-- a fault of asking, and one of reading
abbrev pub is_of_asking : CallFault → Bool
is_of_asking Link = true
is_of_asking Memory = true
is_of_asking _ = false

abbrev pub is_of_reading : CallFault → Bool
is_of_reading Link = true
is_of_reading Memory = true
is_of_reading Ended = true
is_of_reading _ = false

-- A piece was read and stands behind what is kept; or the link was at its end; or it wasn't read, or found no memory.
pub record ReadsPiece (before after : Inlet) (old new : List ℕ) (result : Result (Unit {0}) CallFault) : Type 0 where
  pub taken : List ℕ
  pub takes : Takes before after taken
  pub held : (stream : List ℕ) (replies : List Response) → AreTaken stream replies old → Fails result Memory ⊎ AreTaken (stream ++ taken) replies new
  pub ended : Fails result Ended → IsAtEnd after.left
  pub none : Fails result Ended → (taken ≡ []) × (new ≡ old)
  pub causes : IfErr result (λ e. is_of_reading e ≡ true)

-- what a fault of framing is to a call
abbrev pub fault_of : FrameFault → CallFault
fault_of frame.Memory = Memory
fault_of f = PeerFrame f

-- what the refusal of a body is to a call
abbrev pub refused_by : Refused → Why → CallFault
refused_by r why.Memory = Memory
refused_by r _ = PeerDocument r

abbrev pub refusal_of : Refused → CallFault
refusal_of r = refused_by r r.why
