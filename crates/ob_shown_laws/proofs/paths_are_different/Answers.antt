use Rattle.ob_shown_laws.proofs.Bridging.{paths_differ}
use Rattle.ob_shown_laws.proofs.paths_are_different.Goals as goal

pub returns : goal.returns
returns c = paths_differ
