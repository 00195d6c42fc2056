use Rattle.ob_site_laws.proofs.SinceRows as rows
use Rattle.ob_site_laws.proofs.since_rows.Goals as goal

pub returns-clause-one_is_lacking : goal.returns-clause-one_is_lacking
returns-clause-one_is_lacking c = rows.one_is_lacking

pub returns-clause-none_without_its_alarm : goal.returns-clause-none_without_its_alarm
returns-clause-none_without_its_alarm c = rows.none_without_its_alarm

pub returns-clause-passes_none : goal.returns-clause-passes_none
returns-clause-passes_none c = rows.passes_none
