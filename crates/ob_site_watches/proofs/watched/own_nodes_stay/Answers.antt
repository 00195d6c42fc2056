use Rattle.ob_site_watches.proofs.Staying.{own_nodes_stay}
use Rattle.ob_site_watches.proofs.watched.own_nodes_stay.Goals as goal

pub returns : goal.returns
returns c = own_nodes_stay
