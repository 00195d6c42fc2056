-- Worked rows of what a history shows otherwise.
use Rattle.std.specs.Prelude.{◌≡◌, ℕ, pos, true, false, List, [], ◌∷◌, drop, length, Option, Some, None}
use Rattle.ob_object.specs.declared.kind.Kind.TheVariants as kind
use Rattle.ob_object.specs.declared.head.Slot.TheVariants.{Null}
use Rattle.ob_history.specs.declared.records.Record.{Record}
use Rattle.ob_site_settling.specs.Spans.{span_of, same_spans, dropped_by}

-- a record at so many seconds
abbrev pub at_second : ℕ → Record
at_second n = record { time = record { seconds = pos n; nanos = 0; offset = pos 0 }; kind = kind.Int; slot = Null }

-- what is kept of records down to a capacity
abbrev pub kept_of : Option ℕ → List Record → List Record
kept_of capacity rs = drop (dropped_by capacity (length rs)) rs

-- A history keeps two records, of the seconds 1 and 2. With a third one, of the second 3, it shows another start and end.
abbrev pub RollingIsShown : Type 0
RollingIsShown =
    same_spans (span_of (at_second 1 ∷ at_second 2 ∷ [])) (span_of (kept_of (Some 2) (at_second 1 ∷ at_second 2 ∷ at_second 3 ∷ []))) ≡ false

-- Where all three are of one second, nothing is shown otherwise, though the first one rolled off.
abbrev pub SameSecondIsNotShown : Type 0
SameSecondIsNotShown =
    same_spans (span_of (at_second 1 ∷ at_second 1 ∷ [])) (span_of (kept_of (Some 2) (at_second 1 ∷ at_second 1 ∷ at_second 1 ∷ []))) ≡ true

-- And without a capacity the count is another.
abbrev pub CountIsShown : Type 0
CountIsShown =
    same_spans (span_of (at_second 1 ∷ at_second 1 ∷ [])) (span_of (kept_of None (at_second 1 ∷ at_second 1 ∷ at_second 1 ∷ []))) ≡ false
