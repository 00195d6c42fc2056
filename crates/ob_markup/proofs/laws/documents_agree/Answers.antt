use Rattle.ob_markup.proofs.Trees.{tree_of}
use Rattle.ob_markup.proofs.Cutting.{spelled_of}
use Rattle.ob_markup.proofs.laws.documents_agree.Goals as goal

pub returns : goal.returns
returns c = λ bytes ns o. (tree_of bytes ns o, spelled_of bytes ns o)
