use Rattle.ob_record.proofs.RunLaws.{one_run}
use Rattle.ob_record.proofs.laws.one_run.Goals as goal

pub returns : goal.returns
returns c = one_run c.text_spells.ensures c.one_document.ensures
