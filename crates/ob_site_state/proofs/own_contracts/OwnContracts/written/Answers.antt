use Rattle.std.proofs.Common.{◌≡◌, ◌<◌, ◌∙◌, List, false, sym, ap, subst}
use Rattle.std.specs.Prelude.{slice_index_or}
use Rattle.ob_object.specs.Object.{parts}
use Rattle.ob_tree.specs.declared.node.NodeId.{NodeId}
use Rattle.ob_tree.specs.Trees.{Stamped}
use Rattle.ob_shown_laws.specs.Contracted.{is_inside}
use Rattle.ob_site_rules.specs.Writes.{site_contracts}
use Rattle.ob_site_state.specs.OwnContracts.{AreWritten, StandAt}
use Rattle.ob_site_state.proofs.OwnRows.{item_is, part_within, stand_there, written_all, written_more, written_none}
use Rattle.ob_site_state.proofs.own_contracts.OwnContracts.written.Goals as goal

pub loop-contract-init : goal.loop-contract-init
loop-contract-init c = written_none c.args.node.number c.args.ground.now.tree.root c.as_slice-contract-items.result.now c.new-written.result.items c.new-written.ensures.items

pub may_be_inside-requires-clause-round : goal.may_be_inside-requires-clause-round
may_be_inside-requires-clause-round c =
    let o = c.args.ground.now.tree.root in
    let nodes = c.as_slice-contract-items.result.now in
    let stand : StandAt o nodes (site_contracts o) = subst (λ (l : List NodeId). StandAt o l (site_contracts o)) (sym c.as_slice-contract-items.ensures.value) c.requires.stand in
    let f = stand_there o nodes (site_contracts o) stand c.loop-contract.contract-index (slice_index_or c.as_slice-contract-items.result.now c.loop-contract.contract-index (record { number = 0 })) c.loop-contract-test.true (item_is c.as_slice-contract-items.result.now c.loop-contract.contract-index (record { number = 0 }) c.loop-contract-test.true) in
    subst (λ (t : Stamped). (slice_index_or c.as_slice-contract-items.result.now c.loop-contract.contract-index (record { number = 0 })).number < parts t.root) (sym c.tree.ensures) (part_within o f.0.1 (slice_index_or c.as_slice-contract-items.result.now c.loop-contract.contract-index (record { number = 0 })).number f.2)

pub loop-contract-preserved : goal.loop-contract-preserved
loop-contract-preserved c =
    let o = c.args.ground.now.tree.root in
    written_more c.args.node.number o c.as_slice-contract-items.result.now c.loop-contract.contract-index c.loop-contract.written.items c.push.new.self.items (slice_index_or c.as_slice-contract-items.result.now c.loop-contract.contract-index (record { number = 0 })) c.may_be_inside.result c.loop-contract-test.true (item_is c.as_slice-contract-items.result.now c.loop-contract.contract-index (record { number = 0 }) c.loop-contract-test.true)
    (λ off. subst (λ (t : Stamped). is_inside c.args.node.number (slice_index_or c.as_slice-contract-items.result.now c.loop-contract.contract-index (record { number = 0 })).number t.root ≡ false) c.tree.ensures (c.may_be_inside.ensures off)) c.in_ok-push.ensures.items c.loop-contract.invariant

pub returns-clause-some : goal.returns-clause-some
returns-clause-some c =
    let o = c.args.ground.now.tree.root in
    subst (λ (l : List NodeId). AreWritten c.args.node.number o l c.loop-contract.written.items) c.as_slice-contract-items.ensures.value
    (written_all c.args.node.number o c.as_slice-contract-items.result.now c.loop-contract.contract-index c.loop-contract.written.items c.loop-contract-test.false c.loop-contract.invariant)

pub returns-then-not-may_be_in_contracts-clause-none : goal.returns-then-not-may_be_in_contracts-clause-none
returns-then-not-may_be_in_contracts-clause-none c = λ none. c.may_be_in_contracts.ensures c.if-not-may_be_in_contracts.true
