-- What contracts see of a dialogue in hand.
use Rattle.std.specs.Prelude.{◌≡◌, ℕ, ◌+◌, ◌<◌, ◌^◌, Bool, true, false, List, Vec, IsSome, Option, Some, None, unwrap_or, Result}
use Rattle.std.specs.declared.result.Result.TheVariants.{Ok, Err}
use Rattle.std.specs.declared.alloc.AllocError.{AllocError}
use Rattle.ob_values.specs.declared.verb.Verb.TheVariants.{Post}
use Rattle.ob_object.specs.Object.{Object}
use Rattle.ob_io.specs.Told.{Gains, IsFront}
use Rattle.ob_watching.specs.WatchOuts.{Text}
use Rattle.ob_client.specs.Entries.{entries_once}
use Rattle.ob_client.specs.declared.mirror_fault.MirrorFault.{MirrorFault}
use Rattle.ob_client.specs.declared.mirror_fault.MirrorFault.TheVariants as mirrors
use Rattle.ob_console.specs.declared.ack_call.AckFault.{AckFault}
use Rattle.ob_console.specs.declared.board.Board.{Board}
use Rattle.ob_console.specs.declared.board.BoardFault.{BoardFault}
use Rattle.ob_console.specs.declared.board.BoardFault.TheVariants as boards
use Rattle.ob_console.specs.declared.ack_call.AckFault.TheVariants as acks
use Rattle.ob_dialogue.specs.Plans as plans
use Rattle.ob_dialogue.specs.Printing.{errs_text}
use Rattle.ob_dialogue.specs.Stages as stages
use Rattle.ob_dialogue.specs.Taking as taking
use Rattle.ob_dialogue.specs.Legs as legs
use Rattle.ob_dialogue.specs.declared.plan.DialoguePlan.{DialoguePlan}
use Rattle.ob_dialogue.specs.declared.plan.Topic.{Topic}
use Rattle.ob_dialogue.specs.declared.plan.Topic.TheVariants as topics
use Rattle.ob_asking.specs.declared.place.Place.{Place}
use Rattle.ob_dialogue.specs.declared.stage.Ops.{Ops}
use Rattle.ob_dialogue.specs.declared.stage.Watching.{Watching}
use Rattle.ob_dialogue.specs.declared.stage.Stage.{Stage}
use Rattle.ob_dialogue.specs.declared.stage.Stage.TheVariants as at
use Rattle.ob_dialogue.specs.declared.ending.Peer.{Peer}
use Rattle.ob_dialogue.specs.declared.ending.Peer.TheVariants as peers
use Rattle.ob_dialogue.specs.declared.ending.Ending.TheVariants as endings
use Rattle.ob_dialogue.specs.declared.taking.Outcome.{Outcome}
use Rattle.ob_dialogue.specs.declared.link.Pause.{Pause}
use Rattle.ob_dialogue.specs.declared.link.Pause.TheVariants as pauses
use Rattle.ob_dialogue.specs.declared.link.Turned.{Turned}
use Rattle.ob_dialogue.specs.declared.link.Turned.TheVariants as turns

abbrev pub post : Text → Option Object → plans.Request
post target body = record { verb = Post; target = target; body = body }

-- where a broken poll is mended
abbrev pub mending : Ops → Text
mending o = (unwrap_or o.refresh o.changes).target

abbrev pub watching : Watching → stages.Watching
watching w = record { ops = w.ops; asked = w.asked.items; held = w.mirror.held; polled = w.polled }

abbrev pub stage : Stage → stages.Stage
stage (at.Lobby p) = stages.Lobby p
stage (at.Service p) = stages.Service p
stage (at.Make p) = stages.Make p
stage (at.Subject o p) = stages.Subject o p
stage (at.Add w) = stages.Adding (watching w)
stage (at.Ack w target user) = stages.Acking (watching w) target user
stage (at.Poll w) = stages.Polling (watching w)
stage (at.Mend w) = stages.Mending (watching w)
stage (at.Delete w) = stages.Deleting (watching w)
stage at.Over = stages.Over

abbrev pub is_poll : Stage → Bool
is_poll s = stages.is_poll (stage s)

-- no reply was lost, but where that is to be mended; and a further poll can be counted
abbrev pub IsLive : Stage → Type 0
IsLive (at.Add w) = w.mirror.stale ≡ false
IsLive (at.Ack w target user) = w.mirror.stale ≡ false
IsLive (at.Poll w) = (w.mirror.stale ≡ false) × (w.polled + 1 < 2 ^ 64)
IsLive (at.Mend w) = w.polled + 1 < 2 ^ 64
IsLive _ = Unit {0}

-- it is asked by a call of the session itself: an alarm is acknowledged by ob_console's
abbrev pub IsCalled : Stage → Type 0
IsCalled (at.Ack w target user) = ⊥
IsCalled _ = Unit {0}

abbrev pub OptionIsLive : Option Stage → Type 0
OptionIsLive None = Unit {0}
OptionIsLive (Some s) = IsLive s

abbrev pub lobby : Option plans.Place → Option stages.Stage
lobby None = None
lobby (Some p) = Some (stages.Lobby p)

abbrev pub reached : Result Stage Peer → Result stages.Stage Peer
reached (Ok s) = Ok (stage s)
reached (Err fault) = Err fault

abbrev pub taken : Outcome → taking.Taken
taken t = record { lines = t.lines.items; next = reached t.next }

abbrev pub step : List ℕ → Result Stage Peer → taking.Taken
step lines next = record { lines = lines; next = reached next }

abbrev pub behind : List ℕ → Option stages.Stage → taking.Taken
behind lines next = record { lines = lines; next = taking.or_shape next }

-- the next stage, if there is one, has lost no reply; where there is none, a reply is an err or of a wrong form
abbrev pub NextIsLive : Result Stage Peer → Type 0
NextIsLive (Ok s) = IsLive s
NextIsLive (Err (peers.Err o)) = Unit {0}
NextIsLive (Err peers.Shape) = Unit {0}
NextIsLive (Err _) = ⊥

-- where an alarm is acknowledged, or there was no memory
abbrev pub Leads : Result Text AckFault → Result (Option Text) AllocError → Type 0
Leads (Ok target) result = result ≡ Ok (Some target)
Leads (Err acks.Memory) (Ok found) = ⊥
Leads (Err acks.Memory) (Err e) = Unit {0}
Leads (Err _) result = result ≡ Ok None

-- a board, or none where an event is no alarm, or there was no memory
abbrev pub Makes : Result Board BoardFault → Result (Option Board) AllocError → Type 0
Makes (Ok board) result = result ≡ Ok (Some board)
Makes (Err (boards.Shape place)) result = result ≡ Ok None
Makes (Err boards.Memory) (Ok board) = ⊥
Makes (Err boards.Memory) (Err e) = Unit {0}

-- whether a reply was taken, or there was no memory
abbrev pub HasTaken : Result (Unit {0}) MirrorFault → Result Bool AllocError → Type 0
HasTaken (Ok _) result = result ≡ Ok true
HasTaken (Err mirrors.Memory) (Ok taken) = ⊥
HasTaken (Err mirrors.Memory) (Err e) = Unit {0}
HasTaken (Err _) result = result ≡ Ok false

-- what is printed, as bytes
abbrev pub bytes : {Y : Type 0} → Vec ℕ Y → List ℕ
bytes v = v.items

-- the entries of a reply that a mirror takes
abbrev pub AreEntries : Object → List Object → Type 0
AreEntries reply entries = (os : List Object) → entries_once reply ≡ Some os → entries ≡ os

-- their errs on lines, as they are printed
abbrev pub AreErrs : Topic → Object → List ℕ → Type 0
AreErrs watched reply text = (os : List Object) → entries_once reply ≡ Some os → text ≡ errs_text watched reply

abbrev pub pause : Pause → legs.Pause
pause (pauses.Ended e) = legs.Ended e
pause (pauses.Failed s) = legs.Failed (stage s)
pause (pauses.Cut s) = legs.Cut (stage s)

abbrev pub PauseIsLive : Pause → Type 0
PauseIsLive (pauses.Ended e) = Unit {0}
PauseIsLive (pauses.Failed s) = IsLive s
PauseIsLive (pauses.Cut s) = IsLive s

-- What a turn leaves: whatever the dialogue does on the link from the next stage on, it did from this one on; or it paused.
abbrev pub Turns : DialoguePlan → Text → Bool → stages.Stage → legs.Had → legs.Had → Turned → Type 0
Turns p host mends s old new (turns.Next t) =
    (end : legs.Had) (q : legs.Pause) → legs.Leg p host mends (Ok (stage t)) new end q → legs.Leg p host mends (Ok s) old end q
Turns p host mends s old new (turns.Paused q) = legs.Leg p host mends (Ok s) old new (pause q)

-- a stage that comes next is one to which a reply leads
abbrev pub GoesOn : DialoguePlan → stages.Stage → Turned → Type 0
GoesOn p s (turns.Next t) = IsSome (stages.request_at s) × ((o : Object) × ((taking.taken p s o).next ≡ Ok (stage t)))
GoesOn p s (turns.Paused q) = Unit {0}

abbrev pub TurnedIsLive : Turned → Type 0
TurnedIsLive (turns.Next s) = IsLive s
TurnedIsLive (turns.Paused q) = PauseIsLive q

abbrev pub IsNext : Turned → Type 0
IsNext (turns.Next s) = Unit {0}
IsNext (turns.Paused q) = ⊥

-- the link failed; the sink did
abbrev pub IsLinkFault : Pause → Type 0
IsLinkFault q = legs.ending_of (pause q) ≡ endings.Link

abbrev pub IsSinkFault : Pause → Type 0
IsSinkFault q = legs.ending_of (pause q) ≡ endings.Write

abbrev pub TurnsByLink : Turned → Type 0
TurnsByLink (turns.Next s) = ⊥
TurnsByLink (turns.Paused q) = IsLinkFault q

abbrev pub TurnsBySink : Turned → Type 0
TurnsBySink (turns.Next s) = ⊥
TurnsBySink (turns.Paused q) = IsSinkFault q

-- The lines of a reply were printed, or a front of them where the sink failed; then comes its next stage, or why there is none.
pub record Printed (old new : Option (List ℕ)) (t : taking.Taken) (next : Result stages.Stage Peer) : Type 0 where
  pub gained : Gains old t.lines new
  pub is : t.next ≡ next

pub record CutOff (old new : Option (List ℕ)) (t : taking.Taken) : Type 0 where
  pub text : List ℕ
  pub gained : Gains old text new
  pub front : IsFront text t.lines

abbrev pub Prints : Option (List ℕ) → Option (List ℕ) → taking.Taken → Turned → Type 0
Prints old new t (turns.Next s) = Printed old new t (Ok (stage s))
Prints old new t (turns.Paused (pauses.Ended (endings.Peer (peers.Err o)))) = Printed old new t (Err (peers.Err o))
Prints old new t (turns.Paused (pauses.Ended (endings.Peer peers.Shape))) = Printed old new t (Err peers.Shape)
Prints old new t (turns.Paused (pauses.Ended endings.Write)) = CutOff old new t
Prints old new t (turns.Paused _) = ⊥

-- the dialogue goes on at this stage, or the other side ended it
abbrev pub Reaches : Result stages.Stage Peer → Turned → Type 0
Reaches next (turns.Next s) = next ≡ Ok (stage s)
Reaches next (turns.Paused (pauses.Ended (endings.Peer (peers.Err o)))) = next ≡ Err (peers.Err o)
Reaches next (turns.Paused (pauses.Ended (endings.Peer peers.Shape))) = next ≡ Err peers.Shape
Reaches next (turns.Paused _) = ⊥

-- the same of what a reply gives; without memory nothing is printed
abbrev pub Gives : Option (List ℕ) → Option (List ℕ) → DialoguePlan → stages.Stage → Object → Turned → Type 0
Gives old new p s o (turns.Paused (pauses.Ended endings.Memory)) = new ≡ old
Gives old new p s o result = Prints old new (taking.taken p s o) result

abbrev pub IsCutOff : Turned → Type 0
IsCutOff result = result ≡ turns.Paused (pauses.Ended endings.Write)
