use Rattle.ob_client_laws.proofs.CountLemmas as counts
use Rattle.ob_client_laws.proofs.opens_counted.Goals as goal

pub returns : goal.returns
returns c = counts.opens_counted c.opens_counted.ensures c.opens_consistent.ensures
