use Rattle.ob_super_rows.proofs.Rows as rows
use Rattle.ob_super_rows.proofs.worked_rows.Goals as goal

pub returns-clause-empty : goal.returns-clause-empty
returns-clause-empty c = rows.empty

pub returns-clause-bare : goal.returns-clause-bare
returns-clause-bare c = rows.bare

pub returns-clause-twice : goal.returns-clause-twice
returns-clause-twice c = rows.twice

pub returns-clause-bounds : goal.returns-clause-bounds
returns-clause-bounds c = rows.bounds

pub returns-clause-two_configured : goal.returns-clause-two_configured
returns-clause-two_configured c = rows.two_configured

pub returns-clause-shown_root : goal.returns-clause-shown_root
returns-clause-shown_root c = rows.shown_root

pub returns-clause-shown_list : goal.returns-clause-shown_list
returns-clause-shown_list c = rows.shown_list

pub returns-clause-shown_object : goal.returns-clause-shown_object
returns-clause-shown_object c = rows.shown_object

pub returns-clause-shown_nowhere : goal.returns-clause-shown_nowhere
returns-clause-shown_nowhere c = rows.shown_nowhere

pub returns-clause-dial_fails : goal.returns-clause-dial_fails
returns-clause-dial_fails c = rows.dial_fails

pub returns-clause-in_turn : goal.returns-clause-in_turn
returns-clause-in_turn c = rows.in_turn

pub returns-clause-beside_one_up : goal.returns-clause-beside_one_up
returns-clause-beside_one_up c = rows.beside_one_up

pub returns-clause-lapsed_first : goal.returns-clause-lapsed_first
returns-clause-lapsed_first c = rows.lapsed_first

pub returns-clause-err_brings_down : goal.returns-clause-err_brings_down
returns-clause-err_brings_down c = rows.err_brings_down

pub returns-clause-added_and_polled : goal.returns-clause-added_and_polled
returns-clause-added_and_polled c = rows.added_and_polled
