use Rattle.ob_storm.proofs.WorkedRows as worked
use Rattle.ob_storm.proofs.rows.worked_rows.Goals as goal

pub returns-clause-first_draw : goal.returns-clause-first_draw
returns-clause-first_draw c = worked.first_draw

pub returns-clause-first_request : goal.returns-clause-first_request
returns-clause-first_request c = worked.first_request

pub returns-clause-writes : goal.returns-clause-writes
returns-clause-writes c = worked.writes

pub returns-clause-polls_changes : goal.returns-clause-polls_changes
returns-clause-polls_changes c = worked.polls_changes

pub returns-clause-polls_refresh : goal.returns-clause-polls_refresh
returns-clause-polls_refresh c = worked.polls_refresh

pub returns-clause-acknowledges : goal.returns-clause-acknowledges
returns-clause-acknowledges c = worked.acknowledges

pub returns-clause-watches_round : goal.returns-clause-watches_round
returns-clause-watches_round c = worked.watches_round

pub returns-clause-begins_in_order : goal.returns-clause-begins_in_order
returns-clause-begins_in_order c = worked.begins_in_order

pub returns-clause-six_lines : goal.returns-clause-six_lines
returns-clause-six_lines c = worked.six_lines
