use Rattle.ob_site_rows.proofs.Rows as rows
use Rattle.ob_site_rows.proofs.worked_rows.Goals as goal

pub returns-clause-plain : goal.returns-clause-plain
returns-clause-plain c = rows.plain

pub returns-clause-lapses : goal.returns-clause-lapses
returns-clause-lapses c = rows.lapses

pub returns-clause-lobby_ends : goal.returns-clause-lobby_ends
returns-clause-lobby_ends c = rows.lobby_ends

pub returns-clause-inherits : goal.returns-clause-inherits
returns-clause-inherits c = rows.inherits

pub returns-clause-overrides : goal.returns-clause-overrides
returns-clause-overrides c = rows.overrides

pub returns-clause-batches : goal.returns-clause-batches
returns-clause-batches c = rows.batches

pub returns-clause-puts : goal.returns-clause-puts
returns-clause-puts c = rows.puts

pub returns-clause-queries : goal.returns-clause-queries
returns-clause-queries c = rows.queries

pub returns-clause-records : goal.returns-clause-records
returns-clause-records c = rows.records

pub returns-clause-alarms : goal.returns-clause-alarms
returns-clause-alarms c = rows.alarms

pub returns-clause-makes : goal.returns-clause-makes
returns-clause-makes c = rows.makes

pub returns-clause-polls : goal.returns-clause-polls
returns-clause-polls c = rows.polls

pub returns-clause-adds : goal.returns-clause-adds
returns-clause-adds c = rows.adds

pub returns-clause-abouts : goal.returns-clause-abouts
returns-clause-abouts c = rows.abouts

pub returns-clause-feeds : goal.returns-clause-feeds
returns-clause-feeds c = rows.feeds

pub returns-clause-refuses : goal.returns-clause-refuses
returns-clause-refuses c = rows.refuses

pub returns-clause-ops : goal.returns-clause-ops
returns-clause-ops c = rows.ops

pub returns-clause-left_out : goal.returns-clause-left_out
returns-clause-left_out c = rows.left_out

pub returns-clause-watchables : goal.returns-clause-watchables
returns-clause-watchables c = rows.watchables

pub returns-clause-set_back : goal.returns-clause-set_back
returns-clause-set_back c = rows.set_back

pub returns-clause-ack_marks : goal.returns-clause-ack_marks
returns-clause-ack_marks c = rows.ack_marks

pub returns-clause-rolls : goal.returns-clause-rolls
returns-clause-rolls c = rows.rolls

pub returns-clause-rolls_at_the_end : goal.returns-clause-rolls_at_the_end
returns-clause-rolls_at_the_end c = rows.rolls_at_the_end

pub returns-clause-defaults : goal.returns-clause-defaults
returns-clause-defaults c = rows.defaults

pub returns-clause-default_set_back : goal.returns-clause-default_set_back
returns-clause-default_set_back c = rows.default_set_back

pub returns-clause-equal_default : goal.returns-clause-equal_default
returns-clause-equal_default c = rows.equal_default

pub returns-clause-marks_round : goal.returns-clause-marks_round
returns-clause-marks_round c = rows.marks_round

pub returns-clause-ack_marks_root : goal.returns-clause-ack_marks_root
returns-clause-ack_marks_root c = rows.ack_marks_root

pub returns-clause-count_marks : goal.returns-clause-count_marks
returns-clause-count_marks c = rows.count_marks
