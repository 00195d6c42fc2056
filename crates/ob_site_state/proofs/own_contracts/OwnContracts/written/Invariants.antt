use Rattle.ob_site_state.proofs.OwnRows.{AreWrittenTo}
use Rattle.ob_site_state.proofs.own_contracts.OwnContracts.written.Given as goal

-- of the contracts before one it is told
abbrev pub invariant-loop-contract : goal.invariant-loop-contract
invariant-loop-contract l = AreWrittenTo l.node.number l.ground.tree.root l.contract-items l.contract-index l.written.items
