use Rattle.std.proofs.Common.{◌≡◌, ◌+◌, ◌-◌, ◌≤◌, List, length, sym, ap, ◌∙◌, arith}
use Rattle.ob_contracts.specs.Inherit.{Contracts}
use Rattle.ob_contracts.specs.Standard.{standard}
use Rattle.ob_tree.specs.declared.node.NodeId.{NodeId}
use Rattle.ob_tree.specs.Trees.{Stamped}
use Rattle.ob_ground.specs.Grounds.{Grounded}
use Rattle.ob_site_state.proofs.Renewed.{can_remake, first_read}
use Rattle.ob_site_state.proofs.renewing.renew.Goals as goal

pub overflow_sub-first : goal.overflow_sub-first
overflow_sub-first g c =
    let all = first_read c.args.ground.now.library c.args.ground.now.tree.root c.args.own.now.nodes.items c.args.written.now c.requires.may c.requires.stand in
    omega (arith, all, ap (λ (l : Contracts). length l) (c.contracts.ensures.value ∙ c.library.ensures), ap (λ (l : List NodeId). length l) c.as_slice-nodes.ensures.value)

pub replace-requires : goal.replace-requires
replace-requires g c = c.bare-none.ensures.told c.args.ground.now.tree.root

pub remake_marked-requires : goal.remake_marked-requires
remake_marked-requires g c =
    let o = c.args.ground.now.tree.root in
    let all = first_read c.args.ground.now.library o c.args.own.now.nodes.items c.args.written.now c.requires.may c.requires.stand in
    can_remake c.args.ground.now.library c.into_parts-library.result.0 o c.tree.result.now.root c.args.own.now.nodes.items c.as_slice-nodes.result.now c.in_ok-marks.marks.items c.as_slice.result.now (length c.contracts.result.now - length c.as_slice-nodes.result.now) c.args.written.now c.args.own.now.ties
    (c.into_parts-library.ensures ∙ c.replace.ensures.old)
    (ap (λ (t : Stamped). t.root) (c.tree.ensures ∙ ap (λ (x : Grounded). x.tree) c.replace.ensures.new))
    c.as_slice-nodes.ensures.value c.as_slice.ensures.value
    (omega (arith, all, ap (λ (l : Contracts). length l) (c.contracts.ensures.value ∙ c.library.ensures), ap (λ (l : List NodeId). length l) c.as_slice-nodes.ensures.value))
    c.requires.may c.requires.tied c.requires.stand c.in_ok-marks.ensures
