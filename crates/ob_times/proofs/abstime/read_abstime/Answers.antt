use Rattle.std.proofs.Common.{ℕ, List, subst}
use Rattle.ob_spelling.specs.White.{trim}
use Rattle.ob_spelling.specs.declared.fault.ValueFault.TheVariants.{NotTime, Range}
use Rattle.ob_times.specs.InstantText.{IsZonedText, IsZoned, IsInstantOf}
use Rattle.ob_times.specs.Readers.{ReadsAbstime}
use Rattle.ob_spelling.specs.Reads.{ReadsAs}
use Rattle.ob_spelling.proofs.ReadsLemmas.{reads_as_one}
use Rattle.ob_times.proofs.InstantLemmas.{one_zoned, one_instant}
use Rattle.ob_times.proofs.abstime.read_abstime.Goals as goal

pub returns-clause-only : goal.returns-clause-only
returns-clause-only c = λ answer h.
    let text = trim c.args.bytes.now in
    let reads : ReadsAbstime c.args.bytes.now c.instant_of.result = subst (λ (t : List ℕ). ReadsAs (IsZonedText t) IsZoned IsInstantOf NotTime Range c.instant_of.result) c.trimmed.ensures c.instant_of.ensures in
    reads_as_one (IsZonedText text) IsZoned IsInstantOf NotTime Range (one_zoned text) one_instant c.instant_of.result answer reads h
