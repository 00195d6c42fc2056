use Rattle.ob_values.proofs.XmlTextLemmas.{printable_xml}
use Rattle.ob_values.proofs.text.Text.from_ascii.Goals as goal

pub of_str-requires : goal.of_str-requires
of_str-requires c = printable_xml c.args.text.now c.requires
