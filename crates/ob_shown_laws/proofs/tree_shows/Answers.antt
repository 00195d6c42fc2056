use Rattle.ob_shown_laws.proofs.Bridging.{tree_shows}
use Rattle.ob_shown_laws.proofs.tree_shows.Goals as goal

pub returns : goal.returns
returns c = tree_shows
