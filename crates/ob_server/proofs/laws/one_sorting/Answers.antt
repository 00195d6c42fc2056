use Rattle.ob_server.proofs.SortLemmas.{sorting_is_one}
use Rattle.ob_server.proofs.laws.one_sorting.Goals as goal

pub returns : goal.returns
returns c = sorting_is_one c.only.ensures c.one_verdict.ensures
