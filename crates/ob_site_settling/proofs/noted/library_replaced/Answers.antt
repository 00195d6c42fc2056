use Rattle.ob_site_settling.proofs.Looping.{library_here, library_stays, tells_here}
use Rattle.ob_site_settling.proofs.noted.library_replaced.Goals as goal

pub returns-in-Contracts : goal.returns-in-Contracts
returns-in-Contracts c = record {
  library =
      library_here c.changes-changes.result.now c.loop-change.change-index c.in-Contracts.told c.change-item.result c.args.state.now c.loop-change-test.true c.change-item.is c.in-Contracts.is
      c.loop-change.invariant c.changes-changes.ensures.before;
  told =
      tells_here c.changes-changes.result.now c.loop-change.change-index c.in-Contracts.told c.change-item.result c.args.state.now.now c.loop-change-test.true c.change-item.is c.in-Contracts.is
      c.changes-changes.ensures.can;
}

pub returns-clause-library : goal.returns-clause-library
returns-clause-library c = library_stays c.changes-changes.result.now c.loop-change.change-index c.args.state.now c.loop-change-test.false c.loop-change.invariant c.changes-changes.ensures.before
