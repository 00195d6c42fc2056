use Rattle.ob_encoding.specs.Canonical.{canonical_text}
use Rattle.ob_documents.proofs.laws.read_back.Goals as goal

pub returns : goal.returns
returns c = λ ns o carried few. c.only.ensures (canonical_text ns o) ns o (c.text_spells.ensures ns o carried few)
