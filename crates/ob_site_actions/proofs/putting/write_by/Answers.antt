use Rattle.std.proofs.Common.{◌≡◌, None, ap, ap₂, ◌∙◌, subst}
use Rattle.std.proofs.lemmas.Result.{IfOk-weaker, IfErr-weaker}
use Rattle.ob_object.specs.declared.head.Slot.{Slot}
use Rattle.ob_object.specs.declared.kind.Kind.{Kind}
use Rattle.ob_object.specs.Object.{Object, empty_head}
use Rattle.ob_contracts.specs.Inherit.{Contracts, effective_of}
use Rattle.ob_site_rules.specs.State.{State}
use Rattle.ob_site_rules.specs.Writes.{value_fault, written, showing, unless, given_by, write_by}
use Rattle.ob_site_actions.specs.Stops.{IsDone, Stops}
use Rattle.ob_site_actions.specs.declared.not_done.NotDone.{NotDone}
use Rattle.ob_site_actions.proofs.putting.write_by.Goals as goal

pub returns-clause-ok : goal.returns-clause-ok
returns-clause-ok g c =
    let k = c.args.state.now in
    let t = c.write_given.new.state in
    let p = c.args.path.now in
    let o = c.args.object.now in
    let body = c.args.body.now in
    let new = c.in_ok-given.given in
    let done : Kind → Slot → State × Object = λ kind slot. unless (value_fault k.plan k.now k.time p o.head (record (empty_head kind) { slot = slot })) k.now (showing k.plan p o (written k.plan k.time p o slot k.now)) in
    let kind = c.in_ok-given.ensures.kind ∙ ap (λ (lib : Contracts). (effective_of lib body None None).head.kind) c.library.ensures in
    let slot = c.in_ok-given.ensures.slot ∙ ap (λ (lib : Contracts). (effective_of lib body None None).head.slot) c.library.ensures in
    IfOk-weaker c.write_given.result (IsDone k t (done new.kind new.slot)) (IsDone k t (write_by k.plan k.now k.time p o None body))
    (λ reply is. subst (λ (m : State × Object). IsDone k t m reply) (ap₂ done kind slot) is) c.write_given.ensures.ok

pub returns-clause-stop : goal.returns-clause-stop
returns-clause-stop g c =
    let k = c.args.state.now in
    let t = c.write_given.new.state in
    let p = c.args.path.now in
    let o = c.args.object.now in
    let body = c.args.body.now in
    let new = c.in_ok-given.given in
    let done : Kind → Slot → State × Object = λ kind slot. unless (value_fault k.plan k.now k.time p o.head (record (empty_head kind) { slot = slot })) k.now (showing k.plan p o (written k.plan k.time p o slot k.now)) in
    let kind = c.in_ok-given.ensures.kind ∙ ap (λ (lib : Contracts). (effective_of lib body None None).head.kind) c.library.ensures in
    let slot = c.in_ok-given.ensures.slot ∙ ap (λ (lib : Contracts). (effective_of lib body None None).head.slot) c.library.ensures in
    IfErr-weaker c.write_given.result (Stops k t (done new.kind new.slot)) (Stops k t (write_by k.plan k.now k.time p o None body))
    (λ stop is. subst (λ (m : State × Object). Stops k t m stop) (ap₂ done kind slot) is) c.write_given.ensures.stop
