use Rattle.ob_documents.proofs.Holding as holding
use Rattle.ob_documents.proofs.laws.held_carried.Goals as goal

pub returns : goal.returns
returns c = holding.held_carried
