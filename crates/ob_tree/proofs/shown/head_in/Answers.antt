use Rattle.std.proofs.Common.{Some, sym, ap, ◌∙◌}
use Rattle.ob_object.specs.declared.head.Head.{Head}
use Rattle.ob_tree.proofs.Leaves.{said_read}
use Rattle.ob_tree.proofs.shown.head_in.Goals as goal

pub returns : goal.returns
returns c = said_read c.args.leaves.now c.args.place c.leaf_in.result.now c.leaf_in.ensures ∙ ap (λ (h : Head). Some h) (sym c.head.ensures.value)
