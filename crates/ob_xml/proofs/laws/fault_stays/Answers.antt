use Rattle.ob_xml.proofs.Unique as unique
use Rattle.ob_xml.proofs.laws.fault_stays.Goals as goal

pub returns : goal.returns
returns c = unique.fault_stays c.judged_once.ensures
