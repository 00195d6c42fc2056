use Rattle.ob_client_laws.proofs.StoredLemmas as stored
use Rattle.ob_client_laws.proofs.stored_stays.Goals as goal

pub returns : goal.returns
returns c = stored.stored_stays
