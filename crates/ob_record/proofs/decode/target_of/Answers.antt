use Rattle.std.proofs.Common.{Err, subst}
use Rattle.ob_values.specs.XmlText.{ReadsText}
use Rattle.ob_values.specs.declared.fault.TextFault.{TextFault}
use Rattle.ob_record.proofs.TextLaws.{text_is_utf8, text_has_no_bad}
use Rattle.ob_record.proofs.decode.target_of.Goals as goal

pub returns-in-Err-NotUtf8-clause-none : goal.returns-in-Err-NotUtf8-clause-none
returns-in-Err-NotUtf8-clause-none c = λ text.
    subst (λ (f : TextFault). ReadsText c.args.bytes.now (Err f)) c.in-Err-NotUtf8.field-0-is c.in-Err-NotUtf8.ensures (text_is_utf8 c.args.bytes.now text)

pub returns-in-Err-NotXmlChar-clause-none : goal.returns-in-Err-NotXmlChar-clause-none
returns-in-Err-NotXmlChar-clause-none c = λ text.
    text_has_no_bad c.args.bytes.now c.in-Err-NotXmlChar.field-0-0 text
    (subst (λ (f : TextFault). ReadsText c.args.bytes.now (Err f)) c.in-Err-NotXmlChar.field-0-is c.in-Err-NotXmlChar.ensures).1
