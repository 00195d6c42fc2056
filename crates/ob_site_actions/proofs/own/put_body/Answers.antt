use Rattle.std.proofs.Common.{None, Option, ap, ap₂, ◌∙◌, subst}
use Rattle.std.proofs.lemmas.Result.{IfOk-weaker, IfErr-weaker}
use Rattle.ob_object.specs.declared.head.Slot.{Slot}
use Rattle.ob_object.specs.declared.kind.Kind.{Kind}
use Rattle.ob_object.specs.Object.{Object, empty_head}
use Rattle.ob_contracts.specs.Inherit.{Contracts, effective_of}
use Rattle.ob_site_rules.specs.State.{State}
use Rattle.ob_site_rules.specs.Writes.{given_by}
use Rattle.ob_site_rules.specs.declared.fault.Fault.{Fault}
use Rattle.ob_site_actions.specs.Own.{DoneBy, StopsBy, head_faults, head_makes}
use Rattle.ob_site_actions.proofs.OwnNodes.{free_has}
use Rattle.ob_site_actions.proofs.own.put_body.Goals as goal

pub write_head-requires-clause-values : goal.write_head-requires-clause-values
write_head-requires-clause-values g c = free_has c.args.own.now.head c.requires.free

pub returns-clause-ok : goal.returns-clause-ok
returns-clause-ok g c =
    let k = c.args.state.now in
    let t = c.write_head.new.state in
    let p = c.args.at.path.now in
    let o = c.args.own.now in
    let body = c.args.body.now in
    let new = c.in_ok-given.given in
    let faults : Kind → Slot → Option Fault = λ kind slot. head_faults k p o (record (empty_head kind) { slot = slot }) in
    let makes : Kind → Slot → Object → State × Object = λ kind slot d. head_makes k p o (record (empty_head kind) { slot = slot }) d in
    let kind = c.in_ok-given.ensures.kind ∙ ap (λ (lib : Contracts). (effective_of lib body None None).head.kind) c.library.ensures in
    let slot = c.in_ok-given.ensures.slot ∙ ap (λ (lib : Contracts). (effective_of lib body None None).head.slot) c.library.ensures in
    let done : Kind → Slot → Object → Type 0 = λ a b reply. DoneBy k t (faults a b) (makes a b) reply in
    IfOk-weaker c.write_head.result (done new.kind new.slot) (DoneBy k t (head_faults k p o (given_by k.now body)) (head_makes k p o (given_by k.now body)))
    (λ reply is. subst (λ (b : Slot). done (given_by k.now body).kind b reply) slot (subst (λ (a : Kind). done a new.slot reply) kind is)) c.write_head.ensures.ok

pub returns-clause-stop : goal.returns-clause-stop
returns-clause-stop g c =
    let k = c.args.state.now in
    let t = c.write_head.new.state in
    let p = c.args.at.path.now in
    let o = c.args.own.now in
    let body = c.args.body.now in
    let new = c.in_ok-given.given in
    let faults : Kind → Slot → Option Fault = λ kind slot. head_faults k p o (record (empty_head kind) { slot = slot }) in
    let kind = c.in_ok-given.ensures.kind ∙ ap (λ (lib : Contracts). (effective_of lib body None None).head.kind) c.library.ensures in
    let slot = c.in_ok-given.ensures.slot ∙ ap (λ (lib : Contracts). (effective_of lib body None None).head.slot) c.library.ensures in
    IfErr-weaker c.write_head.result (StopsBy k t (faults new.kind new.slot)) (StopsBy k t (head_faults k p o (given_by k.now body)))
    (λ stop is. subst (λ (f : Option Fault). StopsBy k t f stop) (ap₂ faults kind slot) is) c.write_head.ensures.stop
