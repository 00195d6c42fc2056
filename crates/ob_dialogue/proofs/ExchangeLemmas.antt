-- What a call over a session is to a dialogue.
use Rattle.std.proofs.Common.{◌≡◌, ◌⊎◌, ℕ, ◌≤◌, false, List, [], Some, Result, Ok, Err, refl, sym, ap, subst, ◌∙◌, inl, inr, arith}
use Rattle.ob_io.specs.Faults.{Rose}
use Rattle.ob_io.specs.Links.{Takes-none}
use Rattle.ob_io.specs.Told.{Gains-none}
use Rattle.ob_object.specs.Object.{Object}
use Rattle.ob_values.specs.declared.verb.Verb.TheVariants.{Post}
use Rattle.ob_watching.specs.WatchOuts.{Text}
use Rattle.ob_client.specs.Sessions.{Answers, Asks, Reads, Fails, is_last}
use Rattle.ob_client.specs.declared.call_fault.CallFault.{CallFault}
use Rattle.ob_client.proofs.SessionLemmas.{never}
use Rattle.ob_client.specs.declared.call_fault.CallFault.TheVariants as fault
use Rattle.ob_console.specs.Acks.{Standing, CallsAck, ack_in}
use Rattle.ob_dialogue.specs.Plans.{Request}
use Rattle.ob_dialogue.specs.Stages.{Stage, Watching, Acking, request_at}
use Rattle.ob_dialogue.specs.Exchanges.{Wire, wire, text_of, Exchanges, Faulted, Replied, FailedByLink, WasAlive, gave}
use Rattle.ob_dialogue.specs.declared.link.Exchange.{Exchange}
use Rattle.ob_dialogue.proofs.LegLemmas.{none_front}

-- ---- a call

called_so : (host : Text) (s : Stage) (q : Request) (old new : Wire) (answer : Result Object CallFault) → request_at s ≡ Some q → Asks old.sent new.sent (text_of host q) answer
    → Reads Answers old.inlet new.inlet old.kept new.kept answer → Exchanges host s old new (gave answer)
called_so host s q old new (Ok o) at asks reads = record { request = q; is = at; asks = asks; reads = reads }
called_so host s q old new (Err f) at asks reads = record { request = q; is = at; asks = asks; reads = reads }

pub call_exchanges : (host : Text) (s : Stage) (q : Request) (old new : Wire) (answer : Result Object CallFault) (x : Exchange) → x ≡ gave answer → request_at s ≡ Some q → Asks old.sent new.sent (text_of host q) answer
    → Reads Answers old.inlet new.inlet old.kept new.kept answer → Exchanges host s old new x
call_exchanges host s q old new answer x e at asks reads = subst (λ (y : Exchange). Exchanges host s old new y) (sym e) (called_so host s q old new answer at asks reads)

goes_on : (answer : Result Object CallFault) → Replied (gave answer) → is_last answer ≡ false
goes_on (Ok o) r = refl
goes_on (Err f) r = absurd r

pub call_goes_on : (answer : Result Object CallFault) (x : Exchange) → x ≡ gave answer → Replied x → is_last answer ≡ false
call_goes_on answer x e r = goes_on answer (subst Replied e r)

by_link : (answer : Result Object CallFault) → FailedByLink (gave answer) → Fails answer fault.Link
by_link (Ok o) f = absurd f
by_link (Err g) f = f

pub call_by_link : (answer : Result Object CallFault) (x : Exchange) → x ≡ gave answer → FailedByLink x → Fails answer fault.Link
call_by_link answer x e f = by_link answer (subst FailedByLink e f)

lived : (answer : Result Object CallFault) → (Fails answer fault.Dead → ⊥) → WasAlive (gave answer)
lived (Ok o) undead = tt
lived (Err f) undead = undead

pub call_lived : (answer : Result Object CallFault) (x : Exchange) → x ≡ gave answer → (Fails answer fault.Dead → ⊥) → WasAlive x
call_lived answer x e undead = subst WasAlive (sym e) (lived answer undead)

-- ---- the acknowledgement of an alarm

-- without memory nothing was asked
unasked : (host : Text) (s : Stage) (q : Request) (w : Wire) → request_at s ≡ Some q → Faulted host s w w fault.Memory
unasked host s q w at = record {
  request = q;
  is = at;
  asks = record { sent = []; gained = Gains-none w.sent; front = none_front (text_of host q); whole = inr (inr refl) };
  reads = record { taken = []; takes = Takes-none w.inlet; tells = λ stream replies taken. tt; ended = λ e. absurd (let no : fault.Memory ≡ fault.Ended = e in cc) };
}

abbrev wire_of : Standing → Wire
wire_of s = wire s.read s.written s.kept

acked_so : (w : Watching) (target user : Text) (old new : Standing) (answer : Result Object CallFault) → old.dead ≡ false → CallsAck target user old new answer
    → Exchanges old.host (Acking w target user) (wire_of old) (wire_of new) (gave answer)
acked_so w target user old new answer alive (inl calls) =
    let q : Request = record { verb = Post; target = target; body = Some (ack_in user) } in
    called_so old.host (Acking w target user) q (wire_of old) (wire_of new) answer refl (calls.asks alive) (calls.reads alive)
acked_so w target user old new answer alive (inr none) =
    let q : Request = record { verb = Post; target = target; body = Some (ack_in user) } in
    let memory : Result Object CallFault = Err fault.Memory in
    subst (λ (a : Result Object CallFault). Exchanges old.host (Acking w target user) (wire_of old) (wire_of new) (gave a)) (sym none.0)
    (subst (λ (s : Standing). Exchanges old.host (Acking w target user) (wire_of old) (wire_of s) (gave memory)) (sym none.1) (unasked old.host (Acking w target user) q (wire_of old) refl))

pub ack_exchanges : (s : Stage) (w : Watching) (target user : Text) (old new : Standing) (answer : Result Object CallFault) (x : Exchange) → s ≡ Acking w target user → x ≡ gave answer → old.dead ≡ false
    → CallsAck target user old new answer → Exchanges old.host s (wire_of old) (wire_of new) x
ack_exchanges s w target user old new answer x at e alive calls =
    subst (λ (y : Exchange). Exchanges old.host s (wire_of old) (wire_of new) y) (sym e)
    (subst (λ (t : Stage). Exchanges old.host t (wire_of old) (wire_of new) (gave answer)) (sym at) (acked_so w target user old new answer alive calls))

-- the session's want of memory is neither
memory_no_reply : (answer : Result Object CallFault) → answer ≡ Err fault.Memory → Replied (gave answer) → ⊥
memory_no_reply answer e r = subst (λ (a : Result Object CallFault). Replied (gave a)) e r

memory_no_link : (answer : Result Object CallFault) → answer ≡ Err fault.Memory → Fails answer fault.Link → ⊥
memory_no_link answer e f = let no : fault.Memory ≡ fault.Link = subst (λ (a : Result Object CallFault). Fails a fault.Link) e f in cc

memory_no_death : (answer : Result Object CallFault) → answer ≡ Err fault.Memory → Fails answer fault.Dead → ⊥
memory_no_death answer e f = let no : fault.Memory ≡ fault.Dead = subst (λ (a : Result Object CallFault). Fails a fault.Dead) e f in cc

pub ack_goes_on : (target user : Text) (old new : Standing) (answer : Result Object CallFault) (x : Exchange) → x ≡ gave answer → old.dead ≡ false → CallsAck target user old new answer → Replied x → new.dead ≡ false
ack_goes_on target user old new answer x e alive (inl calls) r = (calls.stands alive).1 ∙ call_goes_on answer x e r
ack_goes_on target user old new answer x e alive (inr none) r = absurd (memory_no_reply answer none.0 (subst Replied e r))

pub ack_host : (target user : Text) (old new : Standing) (answer : Result Object CallFault) → old.dead ≡ false → CallsAck target user old new answer → new.host ≡ old.host
ack_host target user old new answer alive (inl calls) = (calls.stands alive).0
ack_host target user old new answer alive (inr none) = ap (λ (s : Standing). s.host) none.1

pub ack_later : (target user : Text) (old new : Standing) (answer : Result Object CallFault) → CallsAck target user old new answer → (old.read_faults ≤ new.read_faults) × (old.write_faults ≤ new.write_faults)
ack_later target user old new answer (inl calls) = calls.later
ack_later target user old new answer (inr none) =
    subst (λ (s : Standing). (old.read_faults ≤ s.read_faults) × (old.write_faults ≤ s.write_faults)) (sym none.1) (omega arith, omega arith)

pub ack_by_link : (target user : Text) (old new : Standing) (answer : Result Object CallFault) (x : Exchange) → x ≡ gave answer → CallsAck target user old new answer → FailedByLink x
    → Rose old.read_faults new.read_faults ⊎ Rose old.write_faults new.write_faults
ack_by_link target user old new answer x e (inl calls) f = calls.cause (call_by_link answer x e f)
ack_by_link target user old new answer x e (inr none) f = absurd (memory_no_link answer none.0 (call_by_link answer x e f))

pub ack_lived : (target user : Text) (old new : Standing) (answer : Result Object CallFault) (x : Exchange) → x ≡ gave answer → old.dead ≡ false → CallsAck target user old new answer → WasAlive x
ack_lived target user old new answer x e alive (inl calls) = call_lived answer x e (λ d. never (sym alive ∙ calls.alive d))
ack_lived target user old new answer x e alive (inr none) = call_lived answer x e (memory_no_death answer none.0)
