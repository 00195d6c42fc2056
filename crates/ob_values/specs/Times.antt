-- Dates, times of day, instants, spans and moments, as contracts see them: passed on to the crates above.
pub use Rattle.ob_times.specs.Civil.{Date, epoch_day, IsDate, IsYmd, IsCivil, IsDateSpelled}
pub use Rattle.ob_times.specs.Clock.{IsTimeOfDay, IsTimeSpelled}
pub use Rattle.ob_times.specs.Times.{Instant, IsInstant, instant, local_seconds, since_year_1, Span, IsSpan, span_length, IsMoment, moment_instant}
pub use Rattle.ob_times.specs.InstantText.{IsInstantSpelled}
pub use Rattle.ob_times.specs.InstantOrder.{instant_cmp}
pub use Rattle.ob_times.specs.SpanText.{IsSpanSpelled}
pub use Rattle.ob_times.specs.SpanOrder.{span_cmp}
pub use Rattle.ob_times.specs.PrintedTimes.{civil_text, time_text, instant_text, span_text}
pub use Rattle.ob_times.specs.Readers.{ReadsDate, ReadsTime, ReadsAbstime, ReadsReltime}
