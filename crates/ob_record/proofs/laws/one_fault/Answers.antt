use Rattle.ob_record.proofs.RunLaws.{one_fault}
use Rattle.ob_record.proofs.laws.one_fault.Goals as goal

pub returns : goal.returns
returns c = one_fault c.text_spells.ensures c.one_document.ensures
