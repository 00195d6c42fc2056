use Rattle.ob_documents.proofs.Backwards as backwards
use Rattle.ob_documents.proofs.laws.spelled.Goals as goal

pub returns : goal.returns
returns c = backwards.spelled c.well_found.ensures
