use Rattle.ob_site_settling.proofs.Stamped.{noted_values}
use Rattle.ob_site_settling.proofs.stamping.is_told.Goals as goal

pub returns-clause-values : goal.returns-clause-values
returns-clause-values c =
    noted_values c.args.state.now c.changes-changes.result.now c.changes-changes.ensures.before c.changes-changes.ensures.can c.changes-changes.ensures.told

pub returns-clause-differ : goal.returns-clause-differ
returns-clause-differ c = c.changes-changes.ensures.sound.paths_differ
