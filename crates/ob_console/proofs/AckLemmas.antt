-- What an acknowledgement answers.
use Rattle.std.proofs.Common.{◌≡◌, ◌⊎◌, refl, sym, ap, subst, inl, inr}
use Rattle.std.specs.Prelude.{Some, Result, Ok, Err}
use Rattle.url.specs.Parts.{Parts}
use Rattle.ob_href.specs.Href.{resolved_path}
use Rattle.ob_href.specs.declared.fault.HrefFault.{HrefFault}
use Rattle.ob_href.specs.declared.fault.HrefFault.TheVariants as href
use Rattle.ob_object.specs.Object.{Object}
use Rattle.ob_watching.specs.WatchOuts.{Text}
use Rattle.ob_client.specs.declared.call_fault.CallFault.{CallFault}
use Rattle.ob_client.specs.declared.call_fault.CallFault.TheVariants as session
use Rattle.ob_console.specs.Acks.{Standing, Calls, CallsAck, Acknowledges, FindsTarget, ack_request, answer_as, leads_to, path_or_origin, fault_of}
use Rattle.ob_console.specs.declared.ack_call.AckFault.{AckFault}
use Rattle.ob_console.specs.declared.ack_call.AckFault.TheVariants.{NoSuch, Origin, Call, Memory}

-- the session was asked
called : (target user : Text) (old new : Standing) (answer : Result Object CallFault) → Calls (ack_request target user) old new answer → Acknowledges (Ok target) user old new (answer_as answer)
called target user old new (Ok o) h = (target, refl, h)
called target user old new (Err session.Link) h = (target, refl, h)
called target user old new (Err (session.PeerStatus n)) h = (target, refl, h)
called target user old new (Err (session.PeerDocument r)) h = (target, refl, h)
called target user old new (Err (session.PeerFrame f)) h = (target, refl, h)
called target user old new (Err session.Ended) h = (target, refl, h)
called target user old new (Err session.Dead) h = (target, refl, h)
called target user old new (Err session.Memory) h = inr (target, refl, h)

-- the op was called
answered : (target user : Text) (old new : Standing) (answer : Result Object CallFault) → CallsAck target user old new answer → Acknowledges (Ok target) user old new (answer_as answer)
answered target user old new answer (inl h) = called target user old new answer h
answered target user old new answer (inr none) = subst (λ (a : Result Object CallFault). Acknowledges (Ok target) user old new (answer_as a)) (sym none.0) (inl none.1)

pub answered_as : (target user : Text) (old new : Standing) (answer : Result Object CallFault) (result : Result Object AckFault) → CallsAck target user old new answer → result ≡ answer_as answer → Acknowledges (Ok target) user old new result
answered_as target user old new answer result h e = subst (λ (r : Result Object AckFault). Acknowledges (Ok target) user old new r) (sym e) (answered target user old new answer h)

-- at the place that was found
pub at_target : (leads : Result Text AckFault) (target user : Text) (old new : Standing) (result : Result Object AckFault) → leads ≡ Ok target → Acknowledges (Ok target) user old new result → Acknowledges leads user old new result
at_target leads target user old new result e h = subst (λ (l : Result Text AckFault). Acknowledges l user old new result) (sym e) h

-- nothing was found
pub refused : (leads : Result Text AckFault) (user : Text) (at : Standing) (fault : AckFault) → FindsTarget leads (Err fault) → Acknowledges leads user at at (Err fault)
refused leads user at NoSuch h = (h, refl)
refused leads user at Origin h = (h, refl)
refused leads user at (Call f) h = absurd h
refused leads user at Memory h = inl refl

-- where an href leads
pub found_there : (base : Parts) (op target : Text) → resolved_path base op ≡ Ok target → leads_to base (Some op) ≡ Ok target
found_there base op target e = ap path_or_origin e

pub found_nowhere : (base : Parts) (op : Text) (e : HrefFault) → (resolved_path base op ≡ Err e) ⊎ (e ≡ href.Memory) → FindsTarget (leads_to base (Some op)) (Err (fault_of e))
found_nowhere base op href.NotUrl h = elim h [ inl x ↦ ap path_or_origin x | inr x ↦ absurd (let f : href.NotUrl ≡ href.Memory = x in cc) ]
found_nowhere base op href.Fragment h = elim h [ inl x ↦ ap path_or_origin x | inr x ↦ absurd (let f : href.Fragment ≡ href.Memory = x in cc) ]
found_nowhere base op href.OtherOrigin h = elim h [ inl x ↦ ap path_or_origin x | inr x ↦ absurd (let f : href.OtherOrigin ≡ href.Memory = x in cc) ]
found_nowhere base op href.Memory h = tt
