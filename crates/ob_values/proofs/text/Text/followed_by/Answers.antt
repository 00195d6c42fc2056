use Rattle.std.proofs.Common.{sym, ◌∙◌, subst}
use Rattle.std.specs.String.{string_bytes}
use Rattle.ob_values.specs.XmlText.{IsXmlText}
use Rattle.ob_values.proofs.XmlTextLemmas.{printable_xml, xml_append}
use Rattle.ob_values.proofs.text.Text.followed_by.Goals as goal

pub from_string-requires : goal.from_string-requires
from_string-requires c =
    let front = subst IsXmlText (sym (c.in_ok-string.ensures.ok ∙ c.as_str.ensures.value)) c.as_str.ensures.xml in
    subst IsXmlText (sym c.in_ok-push_str.ensures.bytes) (xml_append (string_bytes c.in_ok-string.string) c.args.tail.now front (printable_xml c.args.tail.now c.requires))
