use Rattle.std.proofs.Common.{codes, decimal, ◌++◌, sym, subst, refl}
use Rattle.ob_values.specs.XmlText.{IsXmlText}
use Rattle.ob_values.proofs.XmlTextLemmas.{printable_xml, xml_append}
use Rattle.ob_super.proofs.PlaceLemmas.{decimal_printable}
use Rattle.ob_super.proofs.place.object_path.Goals as goal

pub from_string-requires : goal.from_string-requires
from_string-requires c =
    let name = subst IsXmlText (sym c.as_str-text.ensures.value) c.as_str-text.ensures.xml in
    let number = xml_append (codes "/") (decimal c.args.place) (printable_xml (codes "/") refl) (printable_xml (decimal c.args.place) (decimal_printable c.args.place c.ranges.place.fits)) in
    let behind = xml_append c.as_str-text.result.now (codes "/" ++ decimal c.args.place) name number in
    subst IsXmlText (sym c.in_ok-path.ensures.ok) (xml_append (codes "/obix/") (c.as_str-text.result.now ++ (codes "/" ++ decimal c.args.place)) (printable_xml (codes "/obix/") refl) behind)
