use Rattle.std.proofs.Common.{List, ℕ, sym, subst}
use Rattle.ob_values.specs.XmlText.{IsXmlText}
use Rattle.ob_command.proofs.TextLemmas.{is_xml_text}
use Rattle.ob_command.proofs.text.copied.Goals as goal

pub from_string-requires : goal.from_string-requires
from_string-requires c =
    subst (λ (t : List ℕ). IsXmlText t) (sym c.in_ok-string.ensures.ok) (is_xml_text c.args.word.now c.utf8.word c.requires)
