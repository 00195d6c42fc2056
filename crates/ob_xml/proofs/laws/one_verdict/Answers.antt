use Rattle.ob_xml.proofs.Unique as unique
use Rattle.ob_xml.proofs.laws.one_verdict.Goals as goal

pub returns : goal.returns
returns c = unique.one_verdict c.one_text.ensures c.one_part.ensures
