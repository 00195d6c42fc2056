use Rattle.std.proofs.Common.{ℕ, List, subst}
use Rattle.ob_spelling.specs.White.{trim}
use Rattle.ob_spelling.specs.declared.fault.ValueFault.TheVariants.{NotTime, Range}
use Rattle.ob_times.specs.SpanText.{IsSpanText, FitsSpan, IsSpanOf}
use Rattle.ob_times.specs.Readers.{ReadsReltime}
use Rattle.ob_spelling.specs.Reads.{ReadsAs}
use Rattle.ob_spelling.proofs.ReadsLemmas.{reads_as_one}
use Rattle.ob_times.proofs.SpanLemmas.{one_span, one_span_value}
use Rattle.ob_times.proofs.reltime.read_reltime.Goals as goal

pub returns-clause-only : goal.returns-clause-only
returns-clause-only c = λ answer h.
    let text = trim c.args.bytes.now in
    let reads : ReadsReltime c.args.bytes.now c.span_of.result = subst (λ (t : List ℕ). ReadsAs (IsSpanText t) FitsSpan IsSpanOf NotTime Range c.span_of.result) c.trimmed.ensures c.span_of.ensures in
    reads_as_one (IsSpanText text) FitsSpan IsSpanOf NotTime Range (one_span text) one_span_value c.span_of.result answer reads h
