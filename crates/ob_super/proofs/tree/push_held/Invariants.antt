use Rattle.ob_super.specs.InHand as in_hand
use Rattle.ob_super.proofs.TreeLemmas.{IsPut}
use Rattle.ob_super.proofs.tree.push_held.Given as goal

abbrev pub invariant-loop-place : goal.invariant-loop-place
invariant-loop-place l = IsPut (in_hand.upstream l.upstream) l.mirror.held l.initial.list.head l.place l.list
