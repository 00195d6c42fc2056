-- A dialogue on one link, as its own code tells of it, while the link is at hand.
use Rattle.std.specs.Prelude.{◌≡◌, ◌⊎◌, ℕ, Bool, true, false, List, [], ◌∷◌, ◌++◌, length, IsSome, Option, Ok}
use Rattle.std.specs.Io.KnownBytes.{IsAtEnd}
use Rattle.ob_io.specs.Dials.{Dial, Visit}
use Rattle.ob_io.specs.Links.{Inlet, Takes}
use Rattle.ob_io.specs.Told.{Gains, IsFront}
use Rattle.ob_object.specs.Object.{Object}
use Rattle.ob_http.specs.Reply.{Response}
use Rattle.ob_http.specs.Replies.{AreTaken}
use Rattle.ob_watching.specs.WatchOuts.{Text}
use Rattle.ob_client.specs.declared.call_fault.CallFault.{CallFault}
use Rattle.ob_client.specs.declared.call_fault.CallFault.TheVariants as fault
use Rattle.ob_dialogue.specs.Plans.{DialoguePlan}
use Rattle.ob_dialogue.specs.Stages.{Stage}
use Rattle.ob_dialogue.specs.Turns.{Reached, asked, shown, after, AreAnswers, polls, resumed}
use Rattle.ob_dialogue.specs.Links.{texts, Came, EndsAt, is_break, is_printed, IsLink, AreOf, dialled, Outside}
use Rattle.ob_dialogue.specs.declared.ending.Peer.TheVariants as peer
use Rattle.ob_dialogue.specs.declared.ending.Ending.{Ending}
use Rattle.ob_dialogue.specs.declared.ending.Ending.TheVariants as ending

-- The dialogue ended; or a poll was broken that is mended on a further link: the link failed, or it was at its end.
pub data Pause : Type 0 where
  Ended : Ending → Pause
  Failed : Stage → Pause
  Cut : Stage → Pause

-- how it would end if nothing were mended
abbrev pub ending_of : Pause → Ending
ending_of (Ended e) = e
ending_of (Failed s) = ending.Link
ending_of (Cut s) = ending.Peer peer.Ended

-- a poll that broke is mended, where one may be; else it broke for good
abbrev pub Goes : Bool → Reached → Pause → Type 0
Goes mends at (Ended e) = is_break e ≡ true → polls at ≡ true → mends ≡ false
Goes mends at (Failed s) = (mends ≡ true) × (polls at ≡ true) × (resumed at ≡ Ok s)
Goes mends at (Cut s) = (mends ≡ true) × (polls at ≡ true) × (resumed at ≡ Ok s)

-- what is told of a link, of the bytes that are kept of it, and of what is printed
pub record Had : Type 0 where
  pub inlet : Inlet
  pub sent : Option (List ℕ)
  pub kept : List ℕ
  pub printed : Option (List ℕ)

abbrev pub had : Inlet → Option (List ℕ) → List ℕ → Option (List ℕ) → Had
had inlet sent kept printed = record { inlet = inlet; sent = sent; kept = kept; printed = printed }

-- What was asked, read and printed on a link from here on, up to this pause.
pub record Leg (p : DialoguePlan) (host : Text) (mends : Bool) (at : Reached) (old new : Had) (pause : Pause) : Type 0 where
  pub replies : List Object
  pub written : List ℕ
  pub wrote : Gains old.sent written new.sent
  pub front : IsFront written (texts host (asked p at replies))
  pub whole : ending_of pause ≡ ending.Done → written ≡ texts host (asked p at replies)
  pub text : List ℕ
  pub printed : Gains old.printed text new.printed
  pub begun : IsFront text (shown p at replies)
  pub all : is_printed (ending_of pause) ≡ true → text ≡ shown p at replies
  pub taken : List ℕ
  pub takes : Takes old.inlet new.inlet taken
  pub came : (stream : List ℕ) (before : List Response) → AreTaken stream before old.kept
      → Came (stream ++ taken) before replies (ending_of pause)
  pub answered : AreAnswers p at replies
  pub ends : EndsAt (after p at replies) (ending_of pause)
  pub goes : Goes mends (after p at replies) pause
  pub at_end : ending_of pause ≡ ending.Peer peer.Ended → IsAtEnd new.inlet.left

-- how a dialogue would end that a fault of a call breaks; a session that is dead isn't called
abbrev pub ended_by : CallFault → Ending
ended_by fault.Link = ending.Link
ended_by fault.Ended = ending.Peer peer.Ended
ended_by (fault.PeerStatus n) = ending.Peer (peer.Status n)
ended_by (fault.PeerDocument f) = ending.Peer (peer.Document f)
ended_by (fault.PeerFrame f) = ending.Peer (peer.Frame f)
ended_by fault.Memory = ending.Memory
ended_by fault.Dead = ending.Memory

-- What came of the one link that was dialled: it came back; or there was none.
abbrev pub HasOne : Type 0 → DialoguePlan → Bool → Reached → List Object → List Visit → Pause → Type 0
HasOne Told p mends at replies [] pause = (replies ≡ []) × ((pause ≡ Ended ending.Link) ⊎ (pause ≡ Ended ending.Memory))
HasOne Told p mends at replies (v ∷ []) pause =
    Goes mends (after p at replies) pause × EndsAt (after p at replies) (ending_of pause) × AreAnswers p at replies
    × (Told → IsLink p at replies (ending_of pause) v)
HasOne Told p mends at replies _ pause = ⊥

-- what a dialogue did on a link that was dialled, up to this pause
pub record Visits (p : DialoguePlan) (mends : Bool) (s : Stage) (old new : Outside) (pause : Pause) : Type 0 where
  pub replies : List Object
  pub visits : List Visit
  pub dials : List Dial
  pub back : Gains old.visits visits new.visits
  pub dialled_are : Gains old.dials dials new.dials
  pub places : AreOf p dials
  pub all_back : dialled dials ≡ length visits
  pub one : HasOne (IsSome new.visits) p mends (Ok s) replies visits pause
  pub text : List ℕ
  pub printed : Gains old.held text new.held
  pub begun : IsFront text (shown p (Ok s) replies)
  pub all : is_printed (ending_of pause) ≡ true → text ≡ shown p (Ok s) replies
