use Rattle.std.proofs.Common.{true, inr, sym, subst}
use Rattle.ob_xml.specs.declared.doc.Doc.{Doc}
use Rattle.ob_xml.specs.Structure.{beginning}
use Rattle.ob_xml.specs.Judged.{document, fault, Judges}
use Rattle.ob_xml.proofs.Takings.{ended_leads, ended_judges}
use Rattle.ob_xml.proofs.reading.Reading.end.Goals as goal

pub returns-in-Ok-Document : goal.returns-in-Ok-Document
returns-in-Ok-Document c = λ bytes h.
    subst (λ (d : Doc). Judges true beginning 0 bytes (document d)) (sym c.into_inner.ensures)
    (ended_judges c.args.self bytes c.deref.result.now (document c.in-Ok-Document.doc.value) h c.deref.ensures.value
    ((rw c.in-Ok-Document.field-0-is at c.in-Ok-Document.ensures.ran) h.gone h.count (ended_leads c.judged_once.ensures c.args.self bytes c.deref.result.now h c.deref.ensures.value)))

pub returns-in-Ok-Fault : goal.returns-in-Ok-Fault
returns-in-Ok-Fault c = λ bytes h.
    inr (ended_judges c.args.self bytes c.deref.result.now (fault c.in-Ok-Fault.refused.at c.in-Ok-Fault.refused.why) h c.deref.ensures.value
    ((rw c.in-Ok-Fault.field-0-is at c.in-Ok-Fault.ensures.ran) h.gone h.count (ended_leads c.judged_once.ensures c.args.self bytes c.deref.result.now h c.deref.ensures.value)))
