use Rattle.ob_tree.specs.Laid.{object_of, said}
use Rattle.ob_tree.proofs.Numbered.{numbered_none}
use Rattle.ob_tree.proofs.numbering.all_numbers.Goals as goal

pub loop-at-init : goal.loop-at-init
loop-at-init c = numbered_none (object_of (said c.args.leaves.now) c.args.spots.now) c.new-all.result c.new-all.ensures.empty

pub loop-at-preserved : goal.loop-at-preserved
loop-at-preserved c = c.in_ok-put_numbers.ensures c.loop-at.invariant

pub returns : goal.returns
returns c = c.loop-at.invariant
