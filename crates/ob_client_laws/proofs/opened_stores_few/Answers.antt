use Rattle.ob_client_laws.proofs.StoredLemmas as stored
use Rattle.ob_client_laws.proofs.opened_stores_few.Goals as goal

pub returns : goal.returns
returns c = stored.opened_stores_few c.opens_ordered.ensures
