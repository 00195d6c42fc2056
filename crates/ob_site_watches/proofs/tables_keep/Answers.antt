use Rattle.ob_watch.specs.Marks.{IsMarkPast}
use Rattle.ob_site_watches.specs.Known.{IsNumbered}
use Rattle.ob_site_watches.proofs.Keeping.{table_keeps}
use Rattle.ob_site_watches.proofs.tables_keep.Goals as goal

pub returns-clause-marks : goal.returns-clause-marks
returns-clause-marks c = λ steps. table_keeps (IsMarkPast steps)

pub returns-clause-numbers : goal.returns-clause-numbers
returns-clause-numbers c = λ plan. table_keeps (IsNumbered plan)
