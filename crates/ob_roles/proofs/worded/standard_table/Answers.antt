use Rattle.std.proofs.Common.{[], take}
use Rattle.ob_site_rules.specs.Roles.{worded_contracts}
use Rattle.ob_roles.proofs.Tabled.{holds_taken}
use Rattle.ob_roles.proofs.worded.standard_table.Goals as goal

pub loop-contract-preserved : goal.loop-contract-preserved
loop-contract-preserved c = λ whole tells.
    let cs = c.contracts-contract-items.result.now in
    let i = c.loop-contract.contract-index in
    holds_taken whole c.put_contract.new.table cs i c.contract-item.result c.loop-contract-test.true c.contract-item.is
    (c.in_ok-put_contract.ensures whole (worded_contracts [] (take i cs)) tells (c.loop-contract.invariant whole tells))
