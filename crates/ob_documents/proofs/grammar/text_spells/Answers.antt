use Rattle.ob_documents.proofs.SpelledTexts.{text_spells}
use Rattle.ob_documents.proofs.grammar.text_spells.Goals as goal

pub returns : goal.returns
returns c = text_spells
