use Rattle.std.proofs.Common.{◌≡◌, ℕ, List, None, Option, Some, Bor, ap₂, ◌∙◌, sym}
use Rattle.std.proofs.lemmas.Result.{IfOk-weaker}
use Rattle.ob_contracts.specs.Inherit.{Contracts, contract_of}
use Rattle.ob_object.specs.Object.{Object, children}
use Rattle.ob_object.specs.WellFormed.{named}
use Rattle.ob_site_rules.specs.Writes.{has_child, ranged}
use Rattle.ob_site_reads.proofs.ChildNames.{told}
use Rattle.ob_site_actions.proofs.Ranged.{contract_has}
use Rattle.ob_site_actions.proofs.value.has_child.Goals as goal

pub returns-in-Some : goal.returns-in-Some
returns-in-Some g c =
    let k = c.args.state.now in
    let r = c.args.range.now in
    let n = c.args.name.now in
    let o = c.in-Some.contract.now in
    contract_has k.plan k.now r n o c.is_some.result (c.in-Some.ensures ∙ ap₂ (λ (lib : Contracts) (word : List ℕ). contract_of lib word) c.library.ensures c.as_str.ensures.value)
    (sym (told (λ (b : Bor Object). b.now) c.child.result (λ (m : List ℕ). named m (children o)) c.as_str-in-Some.result.now n c.is_some.result c.as_str-in-Some.ensures.value c.child.ensures c.is_some.ensures))

pub returns-in-None : goal.returns-in-None
returns-in-None g c =
    let k = c.args.state.now in
    let r = c.args.range.now in
    let n = c.args.name.now in
    let none : contract_of k.now.library r ≡ None = sym (c.in-None.ensures ∙ ap₂ (λ (lib : Contracts) (word : List ℕ). contract_of lib word) c.library.ensures c.as_str.ensures.value) in
    IfOk-weaker c.node_has.result (λ has. contract_of k.now.library r ≡ None → has ≡ has_child n (ranged k.plan k.now r)) (λ has. has ≡ has_child n (ranged k.plan k.now r)) (λ has is. is none) c.node_has.ensures
