use Rattle.ob_site_watches.proofs.OwnFound.{all_watched_are_own}
use Rattle.ob_site_watches.proofs.watched.watched_are_own.Goals as goal

pub returns : goal.returns
returns c = all_watched_are_own
