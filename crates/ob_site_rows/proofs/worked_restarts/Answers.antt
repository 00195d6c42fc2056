use Rattle.ob_site_rows.proofs.RestartRows as rows
use Rattle.ob_site_rows.proofs.worked_restarts.Goals as goal

pub returns-clause-after_a_restart : goal.returns-clause-after_a_restart
returns-clause-after_a_restart c = rows.after_a_restart

pub returns-clause-after_a_replay : goal.returns-clause-after_a_replay
returns-clause-after_a_replay c = rows.after_a_replay

pub returns-clause-alarms_stay : goal.returns-clause-alarms_stay
returns-clause-alarms_stay c = rows.alarms_stay
