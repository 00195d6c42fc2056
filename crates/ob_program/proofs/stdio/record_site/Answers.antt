use Rattle.ob_program.proofs.stdio.record_site.Goals as goal

pub returns-clause-records : goal.returns-clause-records
returns-clause-records g c = (c.record_run.new.machine, c.record_run.ensures.records)
