use Rattle.ob_opening_laws.proofs.Records.{opens_records}
use Rattle.ob_opening_laws.proofs.opens_records.Goals as goal

pub returns : goal.returns
returns c = opens_records
