use Rattle.ob_watch.proofs.LawLemmas.{as_rules}
use Rattle.ob_watch.proofs.LapseLemmas.{lapses_commute}
use Rattle.ob_watch.proofs.laws.as_the_site_says.Goals as goal

pub returns-clause-rules : goal.returns-clause-rules
returns-clause-rules c = as_rules

pub returns-clause-lapses : goal.returns-clause-lapses
returns-clause-lapses c = lapses_commute
