use Rattle.ob_documents.proofs.Accepted as accepted
use Rattle.ob_documents.proofs.laws.only.Goals as goal

pub returns : goal.returns
returns c = accepted.only c.one_text.ensures
