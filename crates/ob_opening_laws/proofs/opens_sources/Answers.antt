use Rattle.ob_opening_laws.proofs.Sources.{opens_sources}
use Rattle.ob_opening_laws.proofs.opens_sources.Goals as goal

pub returns : goal.returns
returns c = opens_sources
