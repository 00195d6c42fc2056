use Rattle.std.proofs.Common.{sym, arith}
use Rattle.ob_site.proofs.Noted.{inside, outside}
use Rattle.ob_site.proofs.changed.has_other_slot.Goals as goal

pub returns-then-node-len : goal.returns-then-node-len
returns-then-node-len c = sym (outside c.args.node.number c.args.changes.now c.args.tree.now.root (omega (arith, c.if-node-len.true, c.len.ensures)))

pub returns : goal.returns
returns c =
    inside c.args.node.number c.args.changes.now c.args.tree.now.root c.own.result.now c.slot-now.result.now c.slot_before.result.now c.same_slot.result c.own.ensures c.slot-now.ensures c.slot_before.ensures c.same_slot.ensures
