use Rattle.ob_record.proofs.RunLaws.{spelled_is_unbroken}
use Rattle.ob_record.proofs.laws.spelled_is_unbroken.Goals as goal

pub returns : goal.returns
returns c = spelled_is_unbroken c.text_spells.ensures c.one_document.ensures
