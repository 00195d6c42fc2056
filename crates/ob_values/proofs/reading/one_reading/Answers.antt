use Rattle.std.proofs.Common.{◌≡◌, ℕ, Bool, true, false, List, get_or, refl, ap, sym, ◌∙◌, arith, inl, inr, FitsSigned, w64}
use Rattle.ob_spelling.specs.White.{trim}
use Rattle.ob_spelling.proofs.ReadsLemmas.{reads_as_one, reads_one, reads_word_one}
use Rattle.ob_times.specs.Civil.{IsDay, IsDateOf}
use Rattle.ob_times.specs.CivilText.{IsDateText, IsTimeText}
use Rattle.ob_times.specs.Clock.{IsClock, nanos_of_day}
use Rattle.ob_times.specs.InstantText.{IsZonedText, IsZoned, IsInstantOf}
use Rattle.ob_times.specs.SpanText.{IsSpanText, FitsSpan, IsSpanOf}
use Rattle.ob_times.proofs.FormLemmas.{one_day, one_date, one_clock}
use Rattle.ob_times.proofs.InstantLemmas.{one_zoned, one_instant}
use Rattle.ob_times.proofs.SpanLemmas.{one_span, one_span_value}
use Rattle.ob_values.specs.Faults.{NotBool, NotNumber, NotTime, Range}
use Rattle.ob_values.specs.Truth.{IsTruth}
use Rattle.ob_values.specs.Integer.{IsInteger}
use Rattle.ob_values.proofs.IntegerLemmas.{one_number}
use Rattle.ob_values.proofs.OneReal.{one_real_read}
use Rattle.ob_values.proofs.reading.one_reading.Goals as goal

-- the words for true and for false begin with different bytes
apart : (text : List ℕ) → IsTruth text true → IsTruth text false → ⊥
apart text (inl a) (inl b) = let e = ap (λ (t : List ℕ). get_or t 0 0) (sym a ∙ b) in omega arith
apart text (inl a) (inr b) = let e = ap (λ (t : List ℕ). get_or t 0 0) (sym a ∙ b) in omega arith
apart text (inr a) (inl b) = let e = ap (λ (t : List ℕ). get_or t 0 0) (sym a ∙ b) in omega arith
apart text (inr a) (inr b) = let e = ap (λ (t : List ℕ). get_or t 0 0) (sym a ∙ b) in omega arith

one_truth : (text : List ℕ) (a b : Bool) → IsTruth text a → IsTruth text b → a ≡ b
one_truth text true true h k = refl
one_truth text true false h k = absurd (apart text h k)
one_truth text false true h k = absurd (apart text k h)
one_truth text false false h k = refl

pub returns-clause-bools : goal.returns-clause-bools
returns-clause-bools c = λ bytes a b h k. reads_word_one (IsTruth (trim bytes)) NotBool (one_truth (trim bytes)) a b h k

pub returns-clause-ints : goal.returns-clause-ints
returns-clause-ints c = λ bytes a b h k. reads_one IsInteger (FitsSigned w64) NotNumber Range (trim bytes) (one_number (trim bytes)) a b h k

pub returns-clause-decs : goal.returns-clause-decs
returns-clause-decs c = λ bytes a b h k. one_real_read (trim bytes) a b h k

pub returns-clause-dates : goal.returns-clause-dates
returns-clause-dates c = λ bytes a b h k. reads_as_one (IsDateText (trim bytes)) IsDay IsDateOf NotTime Range (one_day (trim bytes)) one_date a b h k

pub returns-clause-times : goal.returns-clause-times
returns-clause-times c = λ bytes a b h k.
    reads_as_one (IsTimeText (trim bytes)) IsClock (λ f n. n ≡ nanos_of_day f) NotTime Range (one_clock (trim bytes)) (λ f v w p q. p ∙ sym q) a b h k

pub returns-clause-abstimes : goal.returns-clause-abstimes
returns-clause-abstimes c = λ bytes a b h k. reads_as_one (IsZonedText (trim bytes)) IsZoned IsInstantOf NotTime Range (one_zoned (trim bytes)) one_instant a b h k

pub returns-clause-reltimes : goal.returns-clause-reltimes
returns-clause-reltimes c = λ bytes a b h k. reads_as_one (IsSpanText (trim bytes)) FitsSpan IsSpanOf NotTime Range (one_span (trim bytes)) one_span_value a b h k
