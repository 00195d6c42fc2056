use Rattle.std.proofs.Common.{take}
use Rattle.ob_contracts.specs.Ties.{AreTied}
use Rattle.ob_site_rules.specs.Writes.{site_contracts}
use Rattle.ob_site_state.proofs.own_contracts.ties_of.Given as goal

-- those of the nodes before one
abbrev pub invariant-loop-node : goal.invariant-loop-node
invariant-loop-node l = AreTied l.library l.ties (take l.node-index (site_contracts l.tree.root))
