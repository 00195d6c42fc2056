-- A request and its reply.
use Rattle.std.specs.Prelude.{◌≡◌, ◌≢◌, Some, None, Result, Ok, Err}
use Rattle.ob_object.specs.Object.{Object}
use Rattle.ob_watching.specs.WatchOuts.{Text}
use Rattle.ob_client.specs.Sessions.{Answers, Asks, Reads}
use Rattle.ob_client.specs.declared.call_fault.CallFault.{CallFault}
use Rattle.ob_client.specs.declared.call_fault.CallFault.TheVariants as fault
-- a link, and the text of a request on it
pub use Rattle.ob_asking.specs.Wires.{Wire, wire, text_of}
use Rattle.ob_dialogue.specs.Plans.{Request}
use Rattle.ob_dialogue.specs.Stages.{Stage, request_at}
use Rattle.ob_dialogue.specs.declared.link.Exchange.{Exchange}
use Rattle.ob_dialogue.specs.declared.link.Exchange.TheVariants as exchange

-- what a call gave
abbrev pub gave : Result Object CallFault → Exchange
gave (Ok o) = exchange.Reply o
gave (Err f) = exchange.Fault f

-- this was asked, and so was it answered
pub record Called (host : Text) (s : Stage) (old new : Wire) (reply : Object) : Type 0 where
  pub request : Request
  pub is : request_at s ≡ Some request
  pub asks : Asks {T = Object} old.sent new.sent (text_of host request) (Ok reply)
  pub reads : Reads Answers old.inlet new.inlet old.kept new.kept (Ok reply)

-- this was asked, and the call gave no object
pub record Faulted (host : Text) (s : Stage) (old new : Wire) (f : CallFault) : Type 0 where
  pub request : Request
  pub is : request_at s ≡ Some request
  pub asks : Asks {T = Object} old.sent new.sent (text_of host request) (Err f)
  pub reads : Reads Answers old.inlet new.inlet old.kept new.kept (Err f)

abbrev pub Exchanges : Text → Stage → Wire → Wire → Exchange → Type 0
Exchanges host s old new exchange.Over = (request_at s ≡ None) × (new ≡ old)
Exchanges host s old new exchange.Memory = new ≡ old
Exchanges host s old new (exchange.Reply o) = Called host s old new o
Exchanges host s old new (exchange.Fault f) = Faulted host s old new f

abbrev pub Replied : Exchange → Type 0
Replied (exchange.Reply o) = Unit {0}
Replied _ = ⊥

abbrev pub FailedByLink : Exchange → Type 0
FailedByLink (exchange.Fault f) = f ≡ fault.Link
FailedByLink _ = ⊥

-- the session wasn't dead
abbrev pub WasAlive : Exchange → Type 0
WasAlive (exchange.Fault f) = f ≢ fault.Dead
WasAlive _ = Unit {0}
