use Rattle.ob_site_settling.proofs.Looping.{values_alone}
use Rattle.ob_site_settling.proofs.noted.changes_values.Goals as goal

pub returns : goal.returns
returns c = λ _.
    values_alone c.changes-changes.result.now c.loop-change.change-index c.args.state.now c.loop-change-test.false c.loop-change.invariant c.changes-changes.ensures.before
    c.changes-changes.ensures.can c.changes-changes.ensures.told
