use Rattle.ob_site_lasting.proofs.SiteRecords.{reads_leave_all, watches_leave_all}
use Rattle.ob_site_lasting.proofs.left_out.Goals as goal

pub returns-clause-reads : goal.returns-clause-reads
returns-clause-reads c = reads_leave_all

pub returns-clause-watches : goal.returns-clause-watches
returns-clause-watches c = watches_leave_all
