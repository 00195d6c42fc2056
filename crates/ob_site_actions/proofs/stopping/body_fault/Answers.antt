use Rattle.std.proofs.Common.{◌≡◌, None, Option, ap, ap₂, ◌∙◌}
use Rattle.std.proofs.lemmas.Result.{IfOk-weaker}
use Rattle.ob_object.specs.declared.head.Slot.{Slot}
use Rattle.ob_object.specs.declared.kind.Kind.{Kind}
use Rattle.ob_object.specs.Object.{empty_head}
use Rattle.ob_contracts.specs.Inherit.{Contracts, effective_of}
use Rattle.ob_site_rules.specs.declared.fault.Fault.{Fault}
use Rattle.ob_site_rules.specs.Writes.{given_by, value_fault}
use Rattle.ob_site_actions.proofs.stopping.body_fault.Goals as goal

pub returns : goal.returns
returns g c =
    let k = c.args.state.now in
    let p = c.args.path.now in
    let o = c.args.target.now in
    let body = c.args.body.now in
    let new = c.in_ok-given.given in
    let found : Kind → Slot → Option Fault = λ kind slot. value_fault k.plan k.now k.time p o.head (record (empty_head kind) { slot = slot }) in
    let kind = c.in_ok-given.ensures.kind ∙ ap (λ (lib : Contracts). (effective_of lib body None None).head.kind) c.library.ensures in
    let slot = c.in_ok-given.ensures.slot ∙ ap (λ (lib : Contracts). (effective_of lib body None None).head.slot) c.library.ensures in
    IfOk-weaker c.value_fault.result (λ f. f ≡ found new.kind new.slot) (λ f. f ≡ value_fault k.plan k.now k.time p o.head (given_by k.now body))
    (λ f is. is ∙ ap₂ found kind slot) c.value_fault.ensures
