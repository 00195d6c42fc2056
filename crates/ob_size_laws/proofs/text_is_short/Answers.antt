use Rattle.ob_size_laws.proofs.Texts.{text_is_short}
use Rattle.ob_size_laws.proofs.text_is_short.Goals as goal

pub returns : goal.returns
returns c = text_is_short
