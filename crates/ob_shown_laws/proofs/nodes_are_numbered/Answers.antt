use Rattle.ob_shown_laws.proofs.Bridging.{nodes_numbered}
use Rattle.ob_shown_laws.proofs.nodes_are_numbered.Goals as goal

pub returns : goal.returns
returns c = nodes_numbered
