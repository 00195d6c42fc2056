use Rattle.ob_contracts.proofs.Taught.{tells_none}
use Rattle.ob_tree.proofs.telling.told_items.Goals as goal

pub returns-then-taken : goal.returns-then-taken
returns-then-taken c = c.into_told.ensures

pub returns : goal.returns
returns c = λ r hands. tells_none r.library r.implied
