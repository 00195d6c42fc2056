use Rattle.std.proofs.Common.{List, ℕ, subst}
use Rattle.ob_spelling.specs.White.{trim}
use Rattle.ob_spelling.specs.declared.fault.ValueFault.TheVariants.{NotTime, Range}
use Rattle.ob_times.specs.CivilText.{IsDateText}
use Rattle.ob_times.specs.Civil.{IsDay, IsDateOf}
use Rattle.ob_times.specs.Readers.{ReadsDate}
use Rattle.ob_spelling.specs.Reads.{ReadsAs}
use Rattle.ob_spelling.proofs.ReadsLemmas.{reads_as_one}
use Rattle.ob_times.proofs.FormLemmas.{one_day, one_date}
use Rattle.ob_times.proofs.civil.read_date.Goals as goal

pub returns-clause-only : goal.returns-clause-only
returns-clause-only c = λ answer h.
    let text = trim c.args.bytes.now in
    let reads : ReadsDate c.args.bytes.now c.date_of.result = subst (λ (t : List ℕ). ReadsAs (IsDateText t) IsDay IsDateOf NotTime Range c.date_of.result) c.trimmed.ensures c.date_of.ensures in
    reads_as_one (IsDateText text) IsDay IsDateOf NotTime Range (one_day text) one_date c.date_of.result answer reads h
