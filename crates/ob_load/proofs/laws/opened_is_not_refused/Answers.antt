use Rattle.ob_load.proofs.LawLemmas.{opened_unrefused}
use Rattle.ob_load.proofs.laws.opened_is_not_refused.Goals as goal

pub returns : goal.returns
returns c = opened_unrefused c.one_verdict.ensures c.only.ensures c.one_document.ensures
