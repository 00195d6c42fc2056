use Rattle.ob_markup.proofs.Again.{finds_pieces}
use Rattle.ob_markup.proofs.laws.finds_pieces.Goals as goal

pub returns : goal.returns
returns c = finds_pieces
