use Rattle.ob_documents.proofs.One.{one_document}
use Rattle.ob_documents.proofs.grammar.one_document.Goals as goal

pub returns : goal.returns
returns c = one_document c.one_text.ensures c.one_part.ensures
