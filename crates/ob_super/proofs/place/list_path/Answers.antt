use Rattle.std.proofs.Common.{codes, ◌++◌, sym, subst, refl}
use Rattle.ob_values.specs.XmlText.{IsXmlText}
use Rattle.ob_values.proofs.XmlTextLemmas.{printable_xml, xml_append}
use Rattle.ob_super.proofs.place.list_path.Goals as goal

pub from_string-requires : goal.from_string-requires
from_string-requires c =
    let name = subst IsXmlText (sym c.as_str-text.ensures.value) c.as_str-text.ensures.xml in
    let behind = xml_append c.as_str-text.result.now (codes "/") name (printable_xml (codes "/") refl) in
    subst IsXmlText (sym c.in_ok-path.ensures.ok) (xml_append (codes "/obix/") (c.as_str-text.result.now ++ codes "/") (printable_xml (codes "/obix/") refl) behind)
