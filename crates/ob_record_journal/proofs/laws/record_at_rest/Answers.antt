use Rattle.ob_record_journal.proofs.Texts.{at_rest}
use Rattle.ob_record_journal.proofs.laws.record_at_rest.Goals as goal

pub returns : goal.returns
returns c = at_rest
