use Rattle.std.proofs.Common.{subst, sym}
use Rattle.ob_values.specs.XmlText.{IsXmlText}
use Rattle.ob_scan.proofs.PlainTexts.{plain_text}
use Rattle.ob_scan.proofs.value.plain.Goals as goal

pub unreachable-requires : goal.unreachable-requires
unreachable-requires c = c.in-Err.ensures.cases.0 (plain_text c.args.raw.now c.if-not-plain_bytes.ensures).utf8

pub returns-clause-text : goal.returns-clause-text
returns-clause-text c = subst IsXmlText (sym c.in-Ok.ensures.cases.0) (plain_text c.args.raw.now c.if-not-plain_bytes.ensures).xml
