use Rattle.ob_documents.proofs.Carrying as carrying
use Rattle.ob_documents.proofs.laws.carried.Goals as goal

pub returns : goal.returns
returns c = carrying.carried
