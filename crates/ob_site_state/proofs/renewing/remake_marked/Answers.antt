use Rattle.std.proofs.Common.{◌≡◌, ◌+◌, ◌-◌, ◌<◌, ℕ, true, false, length, sym, ap, ◌∙◌, subst, arith}
use Rattle.std.specs.Prelude.{slice_index_or}
use Rattle.ob_contracts.specs.Inherit.{Contracts}
use Rattle.ob_contracts.specs.Standard.{standard}
use Rattle.ob_contracts.specs.Ties.{is_marked}
use Rattle.ob_site_state.proofs.OwnRows.{item_is, mark_is, part_within}
use Rattle.ob_site_state.proofs.Renewed.{RemadeTo, first_is, node_there, remade_length, remade_more, remade_none, remade_small, remade_stays}
use Rattle.ob_site_state.proofs.renewing.remake_marked.Goals.{then-marks-place+in_ok-remake_node, else-marks-place}
use Rattle.ob_site_state.proofs.renewing.remake_marked.Goals as goal

pub loop-next-init : goal.loop-next-init
loop-next-init g c = remade_none c.args.library.now c.args.tree.now.root c.args.nodes.now c.args.marks.now c.requires

pub remake_node-requires-clause-place : goal.remake_node-requires-clause-place
remake_node-requires-clause-place g c =
    omega (
      arith,
      c.loop-next-test.true,
      (first_is c.args.library.now c.args.tree.now.root c.args.nodes.now c.args.marks.now c.requires).0,
      remade_length c.args.library.now c.args.tree.now.root c.args.nodes.now c.args.marks.now c.loop-next.next c.loop-next.library c.loop-next.invariant c.loop-next-test.true,
    )

pub remake_node-requires-clause-within : goal.remake_node-requires-clause-within
remake_node-requires-clause-within g c =
    let x = slice_index_or c.args.nodes.now c.loop-next.next (record { number = 0 }) in
    let f = node_there c.args.library.now c.args.tree.now.root c.args.nodes.now c.args.marks.now c.loop-next.next c.loop-next.library c.loop-next.invariant c.loop-next-test.true x (item_is c.args.nodes.now c.loop-next.next (record { number = 0 }) c.loop-next-test.true) in
    part_within c.args.tree.now.root f.0.1 x.number f.2

pub remake_node-requires-clause-small : goal.remake_node-requires-clause-small
remake_node-requires-clause-small g c =
    remade_small c.args.library.now c.args.tree.now.root c.args.nodes.now c.args.marks.now c.loop-next.next c.loop-next.library c.loop-next.invariant c.loop-next-test.true (slice_index_or c.args.nodes.now c.loop-next.next (record { number = 0 }))
    (item_is c.args.nodes.now c.loop-next.next (record { number = 0 }) c.loop-next-test.true)

pub loop-next-preserved : goal.loop-next-preserved
loop-next-preserved g c =
    let lib = c.args.library.now in
    let root = c.args.tree.now.root in
    let nodes = c.args.nodes.now in
    let marks = c.args.marks.now in
    let i = c.loop-next.next in
    let place : ℕ = length marks - length nodes + i in
    let at : place ≡ length standard + i = omega (arith, (first_is lib root nodes marks c.requires).0) in
    elim c.if-marks-place.branch [
      | then-marks-place+in_ok-remake_node w ↦
          subst (λ (l : Contracts). RemadeTo lib root nodes marks (i + 1) l) (sym w.library-is)
          (remade_more lib root nodes marks i c.loop-next.library c.loop-next.invariant c.loop-next-test.true (slice_index_or nodes i (record { number = 0 })) (item_is nodes i (record { number = 0 }) c.loop-next-test.true) place w.remake_node.new.library at
          (sym (mark_is marks place) ∙ w.if-marks-place.true) w.in_ok-remake_node.ensures)
      | else-marks-place w ↦
          subst (λ (l : Contracts). RemadeTo lib root nodes marks (i + 1) l) (sym w.library-is)
          (remade_stays lib root nodes marks i c.loop-next.library c.loop-next.invariant c.loop-next-test.true (ap (λ (n : ℕ). is_marked n marks) (sym at) ∙ sym (mark_is marks place) ∙ w.if-marks-place.false))
    ]
