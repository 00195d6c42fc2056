use Rattle.std.proofs.Common.{◌≡◌, take, length, sym, ap, subst, ◌∙◌, arith}
use Rattle.std.specs.Prelude.{slice_index_or}
use Rattle.std.proofs.lemmas.List.{take_all}
use Rattle.ob_contracts.specs.Inherit.{Contracts}
use Rattle.ob_contracts.specs.Ties.{AreTied}
use Rattle.ob_site_rules.specs.Writes.{site_contracts}
use Rattle.ob_site_state.proofs.OwnRows.{item_is, part_within, stand_length, stand_there, tied_more, tied_none}
use Rattle.ob_site_state.proofs.own_contracts.ties_of.Goals as goal

pub loop-node-init : goal.loop-node-init
loop-node-init c = tied_none c.args.library.now c.new-ties.result (site_contracts c.args.tree.now.root) c.new-ties.ensures

pub put_row-requires : goal.put_row-requires
put_row-requires c =
    let root = c.args.tree.now.root in
    let f = stand_there root c.args.nodes.now (site_contracts root) c.requires c.loop-node.node-index (slice_index_or c.args.nodes.now c.loop-node.node-index (record { number = 0 })) c.loop-node-test.true (item_is c.args.nodes.now c.loop-node.node-index (record { number = 0 }) c.loop-node-test.true) in
    part_within root f.0.1 (slice_index_or c.args.nodes.now c.loop-node.node-index (record { number = 0 })).number f.2

pub loop-node-preserved : goal.loop-node-preserved
loop-node-preserved c =
    let root = c.args.tree.now.root in
    let f = stand_there root c.args.nodes.now (site_contracts root) c.requires c.loop-node.node-index (slice_index_or c.args.nodes.now c.loop-node.node-index (record { number = 0 })) c.loop-node-test.true (item_is c.args.nodes.now c.loop-node.node-index (record { number = 0 }) c.loop-node-test.true) in
    tied_more c.args.library.now c.loop-node.ties c.put_row.new.ties (site_contracts root) c.loop-node.node-index f.0 f.1 c.loop-node.invariant (c.in_ok-put_row.ensures f.0.1 f.2)

pub returns : goal.returns
returns c =
    let own = site_contracts c.args.tree.now.root in
    subst (λ (l : Contracts). AreTied c.args.library.now c.loop-node.ties l)
    (take_all c.loop-node.node-index own (omega (arith, c.loop-node-test.false, stand_length c.args.tree.now.root c.args.nodes.now own c.requires))) c.loop-node.invariant
