-- A request, its reply and what it gives.
use Rattle.std.proofs.Common.{◌≡◌, ℕ, Bool, List, [], Option, Some, None, Result, Ok, Err, refl, sym, subst, ◌∙◌, inl, inr}
use Rattle.ob_io.specs.Told.{Gains, IsFront, Sends, Gains-none}
use Rattle.ob_object.specs.Object.{Object}
use Rattle.ob_watching.specs.WatchOuts.{Text}
use Rattle.ob_client.specs.declared.call_fault.CallFault.{CallFault}
use Rattle.ob_client.specs.declared.call_fault.CallFault.TheVariants as faults
use Rattle.ob_io.specs.declared.traits.Failed.{Failed}
use Rattle.std.specs.Prelude.{IsSome}
use Rattle.ob_dialogue.specs.Plans.{DialoguePlan, Request}
use Rattle.ob_dialogue.specs.Stages.{Stage, request_at}
use Rattle.ob_dialogue.specs.Taking.{Taken, taken}
use Rattle.ob_dialogue.specs.Legs.{Pause, Ended, ending_of, ended_by, Goes, Had, had, Leg}
use Rattle.ob_dialogue.specs.Exchanges.{Wire, Called, Faulted}
use Rattle.ob_dialogue.specs.InHand.{Gives, Prints, Printed, CutOff, Reaches, Turns, GoesOn, stage}
use Rattle.ob_dialogue.proofs.LegLemmas.{none_front, leg_memory, leg_done, leg_err, leg_shape, leg_fault, leg_more, leg_cut}
use Rattle.ob_dialogue.specs.declared.ending.Peer.{Peer}
use Rattle.ob_dialogue.specs.declared.ending.Peer.TheVariants as peer
use Rattle.ob_dialogue.specs.declared.ending.Ending.{Ending}
use Rattle.ob_dialogue.specs.declared.ending.Ending.TheVariants as ending
use Rattle.ob_dialogue.specs.declared.link.Pause.TheVariants as pauses
use Rattle.ob_dialogue.specs.declared.link.Turned.{Turned}
use Rattle.ob_dialogue.specs.declared.link.Turned.TheVariants as turns

asks_some : (asked : Option Request) (r : Request) → asked ≡ Some r → IsSome asked
asks_some None r is = absurd (let e : None ≡ Some r = is in cc)
asks_some (Some q) r is = refl

-- with a sink that tells this
abbrev pub at_sink : Wire → Option (List ℕ) → Had
at_sink w printed = had w.inlet w.sent w.kept printed

pub turn_over : (p : DialoguePlan) (host : Text) (mends : Bool) (s : Stage) (w w' : Wire) (pr : Option (List ℕ)) → request_at s ≡ None → w' ≡ w → Leg p host mends (Ok s) (at_sink w pr) (at_sink w' pr) (Ended ending.Done)
turn_over p host mends s w w' pr none same =
    subst (λ (x : Wire). Leg p host mends (Ok s) (at_sink w pr) (at_sink x pr) (Ended ending.Done)) (sym same) (leg_done p host mends s (at_sink w pr) none)

pub turn_memory : (p : DialoguePlan) (host : Text) (mends : Bool) (s : Stage) (w w' : Wire) (pr : Option (List ℕ)) → w' ≡ w → Leg p host mends (Ok s) (at_sink w pr) (at_sink w' pr) (Ended ending.Memory)
turn_memory p host mends s w w' pr same =
    subst (λ (x : Wire). Leg p host mends (Ok s) (at_sink w pr) (at_sink x pr) (Ended ending.Memory)) (sym same) (leg_memory p host mends (Ok s) (at_sink w pr))

pub turn_fault : (p : DialoguePlan) (host : Text) (mends : Bool) (s : Stage) (w w' : Wire) (pr : Option (List ℕ)) (f : CallFault) (pause : Pause) → Faulted host s w w' f → ending_of pause ≡ ended_by f → Goes mends (Ok s) pause
    → Leg p host mends (Ok s) (at_sink w pr) (at_sink w' pr) pause
turn_fault p host mends s w w' pr f pause call ends goes = leg_fault p host mends s call.request (at_sink w pr) (at_sink w' pr) f pause call.is call.asks call.reads refl ends goes

pub turn_reply : (p : DialoguePlan) (host : Text) (mends : Bool) (s : Stage) (w w' : Wire) (pr pr' : Option (List ℕ)) (o : Object) (result : Turned) → Called host s w w' o → Gives pr pr' p s o result
    → Turns p host mends s (at_sink w pr) (at_sink w' pr') result
turn_reply p host mends s w w' pr pr' o (turns.Next t) call gives = λ end q leg.
    leg_more p host mends s call.request o (at_sink w pr) (at_sink w' pr) (at_sink w' pr') end q (Ok (stage t)) (taken p s o).lines call.is call.asks call.reads gives.is refl gives.gained refl refl refl leg
turn_reply p host mends s w w' pr pr' o (turns.Paused (pauses.Ended (ending.Peer (peer.Err e)))) call gives =
    leg_more p host mends s call.request o (at_sink w pr) (at_sink w' pr) (at_sink w' pr') (at_sink w' pr') (Ended (ending.Peer (peer.Err e))) (Err (peer.Err e)) (taken p s o).lines call.is call.asks call.reads gives.is refl gives.gained refl refl refl
    (leg_err p host mends e (at_sink w' pr'))
turn_reply p host mends s w w' pr pr' o (turns.Paused (pauses.Ended (ending.Peer peer.Shape))) call gives =
    leg_more p host mends s call.request o (at_sink w pr) (at_sink w' pr) (at_sink w' pr') (at_sink w' pr') (Ended (ending.Peer peer.Shape)) (Err peer.Shape) (taken p s o).lines call.is call.asks call.reads gives.is refl gives.gained refl refl refl
    (leg_shape p host mends (at_sink w' pr'))
turn_reply p host mends s w w' pr pr' o (turns.Paused (pauses.Ended (ending.Peer (peer.Status n)))) call gives = absurd gives
turn_reply p host mends s w w' pr pr' o (turns.Paused (pauses.Ended (ending.Peer (peer.Document f)))) call gives = absurd gives
turn_reply p host mends s w w' pr pr' o (turns.Paused (pauses.Ended (ending.Peer (peer.Frame f)))) call gives = absurd gives
turn_reply p host mends s w w' pr pr' o (turns.Paused (pauses.Ended (ending.Peer peer.Ended))) call gives = absurd gives
turn_reply p host mends s w w' pr pr' o (turns.Paused (pauses.Ended ending.Write)) call gives =
    leg_cut p host mends s call.request o (at_sink w pr) (at_sink w' pr) (at_sink w' pr') ending.Write gives.text call.is call.asks call.reads gives.gained gives.front refl refl (inl refl)
turn_reply p host mends s w w' pr pr' o (turns.Paused (pauses.Ended ending.Memory)) call gives =
    leg_cut p host mends s call.request o (at_sink w pr) (at_sink w' pr) (at_sink w' pr') ending.Memory [] call.is call.asks call.reads
    (subst (λ (x : Option (List ℕ)). Gains pr [] x) (sym gives) (Gains-none pr)) (none_front (taken p s o).lines) refl refl (inr refl)
turn_reply p host mends s w w' pr pr' o (turns.Paused (pauses.Ended ending.Done)) call gives = absurd gives
turn_reply p host mends s w w' pr pr' o (turns.Paused (pauses.Ended ending.Link)) call gives = absurd gives
turn_reply p host mends s w w' pr pr' o (turns.Paused (pauses.Failed t)) call gives = absurd gives
turn_reply p host mends s w w' pr pr' o (turns.Paused (pauses.Cut t)) call gives = absurd gives

-- a stage that comes next is one to which the reply leads
pub turn_onward : (p : DialoguePlan) (host : Text) (s : Stage) (w w' : Wire) (pr pr' : Option (List ℕ)) (o : Object) (result : Turned) → Called host s w w' o → Gives pr pr' p s o result → GoesOn p s result
turn_onward p host s w w' pr pr' o (turns.Next t) call gives = (asks_some (request_at s) call.request call.is, (o, gives.is))
turn_onward p host s w w' pr pr' o (turns.Paused q) call gives = tt

-- ---- what is printed

pub prints_cut : (old new : Option (List ℕ)) (t : Taken) (r : Result (Unit {0}) Failed) (bytes : List ℕ) → Sends old new r bytes → bytes ≡ t.lines → CutOff old new t
prints_cut old new t r bytes sends is = record { text = sends.sent; gained = sends.gained; front = subst (λ (x : List ℕ). IsFront sends.sent x) is sends.front }

printed_whole : (old new : Option (List ℕ)) (t : Taken) (u : Unit {0}) (bytes : List ℕ) (next : Result Stage Peer) → Sends {T = Unit {0}} {E = Failed} old new (Ok u) bytes → bytes ≡ t.lines → t.next ≡ next → Printed old new t next
printed_whole old new t u bytes next sends is to = record { gained = subst (λ (x : List ℕ). Gains old x new) (sends.whole ∙ is) sends.gained; is = to }

pub prints_reached : (old new : Option (List ℕ)) (t : Taken) (u : Unit {0}) (bytes : List ℕ) (result : Turned) → Sends {T = Unit {0}} {E = Failed} old new (Ok u) bytes → bytes ≡ t.lines → Reaches t.next result → Prints old new t result
prints_reached old new t u bytes (turns.Next s) sends is r = printed_whole old new t u bytes (Ok (stage s)) sends is r
prints_reached old new t u bytes (turns.Paused (pauses.Ended (ending.Peer (peer.Err o)))) sends is r = printed_whole old new t u bytes (Err (peer.Err o)) sends is r
prints_reached old new t u bytes (turns.Paused (pauses.Ended (ending.Peer peer.Shape))) sends is r = printed_whole old new t u bytes (Err peer.Shape) sends is r
prints_reached old new t u bytes (turns.Paused (pauses.Ended (ending.Peer (peer.Status n)))) sends is r = absurd r
prints_reached old new t u bytes (turns.Paused (pauses.Ended (ending.Peer (peer.Document f)))) sends is r = absurd r
prints_reached old new t u bytes (turns.Paused (pauses.Ended (ending.Peer (peer.Frame f)))) sends is r = absurd r
prints_reached old new t u bytes (turns.Paused (pauses.Ended (ending.Peer peer.Ended))) sends is r = absurd r
prints_reached old new t u bytes (turns.Paused (pauses.Ended ending.Write)) sends is r = absurd r
prints_reached old new t u bytes (turns.Paused (pauses.Ended ending.Memory)) sends is r = absurd r
prints_reached old new t u bytes (turns.Paused (pauses.Ended ending.Done)) sends is r = absurd r
prints_reached old new t u bytes (turns.Paused (pauses.Ended ending.Link)) sends is r = absurd r
prints_reached old new t u bytes (turns.Paused (pauses.Failed s)) sends is r = absurd r
prints_reached old new t u bytes (turns.Paused (pauses.Cut s)) sends is r = absurd r

-- ---- what a reply gives

gives_printed : (old new : Option (List ℕ)) (p : DialoguePlan) (s : Stage) (o : Object) (result : Turned) → Prints old new (taken p s o) result → Gives old new p s o result
gives_printed old new p s o (turns.Next t) h = h
gives_printed old new p s o (turns.Paused (pauses.Ended (ending.Peer (peer.Err e)))) h = h
gives_printed old new p s o (turns.Paused (pauses.Ended (ending.Peer peer.Shape))) h = h
gives_printed old new p s o (turns.Paused (pauses.Ended (ending.Peer (peer.Status n)))) h = absurd h
gives_printed old new p s o (turns.Paused (pauses.Ended (ending.Peer (peer.Document f)))) h = absurd h
gives_printed old new p s o (turns.Paused (pauses.Ended (ending.Peer (peer.Frame f)))) h = absurd h
gives_printed old new p s o (turns.Paused (pauses.Ended (ending.Peer peer.Ended))) h = absurd h
gives_printed old new p s o (turns.Paused (pauses.Ended ending.Write)) h = h
gives_printed old new p s o (turns.Paused (pauses.Ended ending.Memory)) h = absurd h
gives_printed old new p s o (turns.Paused (pauses.Ended ending.Done)) h = absurd h
gives_printed old new p s o (turns.Paused (pauses.Ended ending.Link)) h = absurd h
gives_printed old new p s o (turns.Paused (pauses.Failed t)) h = absurd h
gives_printed old new p s o (turns.Paused (pauses.Cut t)) h = absurd h

pub gives_of : (old new : Option (List ℕ)) (p : DialoguePlan) (s : Stage) (o : Object) (t : Taken) (result : Turned) → t ≡ taken p s o → Prints old new t result → Gives old new p s o result
gives_of old new p s o t result is prints = gives_printed old new p s o result (subst (λ (x : Taken). Prints old new x result) is prints)

-- ---- faults

pub write_no_link : ending.Write ≡ ending.Link → ⊥
write_no_link e = let f : ending.Write ≡ ending.Link = e in cc

pub memory_no_link : ending.Memory ≡ ending.Link → ⊥
memory_no_link e = let f : ending.Memory ≡ ending.Link = e in cc

pub memory_no_write : ending.Memory ≡ ending.Write → ⊥
memory_no_write e = let f : ending.Memory ≡ ending.Write = e in cc

pub done_no_link : ending.Done ≡ ending.Link → ⊥
done_no_link e = let f : ending.Done ≡ ending.Link = e in cc

pub done_no_write : ending.Done ≡ ending.Write → ⊥
done_no_write e = let f : ending.Done ≡ ending.Write = e in cc

link_fault : (f : CallFault) → ended_by f ≡ ending.Link → f ≡ faults.Link
link_fault faults.Link e = refl
link_fault (faults.PeerStatus n) e = absurd (let g : ending.Peer (peer.Status n) ≡ ending.Link = e in cc)
link_fault (faults.PeerDocument f) e = absurd (let g : ending.Peer (peer.Document f) ≡ ending.Link = e in cc)
link_fault (faults.PeerFrame f) e = absurd (let g : ending.Peer (peer.Frame f) ≡ ending.Link = e in cc)
link_fault faults.Ended e = absurd (let g : ending.Peer peer.Ended ≡ ending.Link = e in cc)
link_fault faults.Dead e = absurd (memory_no_link e)
link_fault faults.Memory e = absurd (memory_no_link e)

fault_no_write : (f : CallFault) → ended_by f ≡ ending.Write → ⊥
fault_no_write faults.Link e = let g : ending.Link ≡ ending.Write = e in cc
fault_no_write (faults.PeerStatus n) e = let g : ending.Peer (peer.Status n) ≡ ending.Write = e in cc
fault_no_write (faults.PeerDocument f) e = let g : ending.Peer (peer.Document f) ≡ ending.Write = e in cc
fault_no_write (faults.PeerFrame f) e = let g : ending.Peer (peer.Frame f) ≡ ending.Write = e in cc
fault_no_write faults.Ended e = let g : ending.Peer peer.Ended ≡ ending.Write = e in cc
fault_no_write faults.Dead e = memory_no_write e
fault_no_write faults.Memory e = memory_no_write e

-- a pause that ends as a fault does is by the link only where the fault is, and never by the sink
pub by_link : (f : CallFault) (e : Ending) → e ≡ ended_by f → e ≡ ending.Link → f ≡ faults.Link
by_link f e is link = link_fault f (sym is ∙ link)

pub not_by_sink : (f : CallFault) (e : Ending) → e ≡ ended_by f → e ≡ ending.Write → ⊥
not_by_sink f e is write = fault_no_write f (sym is ∙ write)
