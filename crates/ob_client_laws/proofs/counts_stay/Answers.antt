use Rattle.ob_client_laws.proofs.CountLemmas as counts
use Rattle.ob_client_laws.proofs.counts_stay.Goals as goal

pub returns : goal.returns
returns c = counts.counts_stay
