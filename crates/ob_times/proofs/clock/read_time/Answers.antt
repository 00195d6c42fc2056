use Rattle.std.proofs.Common.{◌≡◌, ◌∙◌, sym, List, ℕ, subst}
use Rattle.ob_spelling.specs.White.{trim}
use Rattle.ob_spelling.specs.declared.fault.ValueFault.TheVariants.{NotTime, Range}
use Rattle.ob_times.specs.CivilText.{IsTimeText}
use Rattle.ob_times.specs.Clock.{IsClock, nanos_of_day}
use Rattle.ob_times.specs.Readers.{ReadsTime}
use Rattle.ob_spelling.specs.Reads.{ReadsAs}
use Rattle.ob_spelling.proofs.ReadsLemmas.{reads_as_one}
use Rattle.ob_times.proofs.FormLemmas.{one_clock}
use Rattle.ob_times.proofs.clock.read_time.Goals as goal

pub returns-clause-only : goal.returns-clause-only
returns-clause-only c = λ answer h.
    let text = trim c.args.bytes.now in
    let reads : ReadsTime c.args.bytes.now c.time_of.result = subst (λ (t : List ℕ). ReadsAs (IsTimeText t) IsClock (λ f n. n ≡ nanos_of_day f) NotTime Range c.time_of.result) c.trimmed.ensures c.time_of.ensures in
    reads_as_one (IsTimeText text) IsClock (λ f n. n ≡ nanos_of_day f) NotTime Range (one_clock text) (λ f v w p q. p ∙ sym q) c.time_of.result answer reads h
