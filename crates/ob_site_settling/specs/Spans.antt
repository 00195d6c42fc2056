-- What a history shows of its records, before a step and after it.
use Rattle.std.specs.Prelude.{ℕ, ◌-◌, Bool, ◌&&◌, List, length, Option, Some, None, option_map}
use Rattle.circular_buffer.specs.Buffer.{last_item}
use Rattle.ob_history.specs.declared.records.Record.{Record}
use Rattle.ob_site_rules.specs.Build.{number_slot, time_slot}
use Rattle.ob_site_rules.specs.Sameness.{same_slot}
use Rattle.ob_site_rules.specs.Shown.{first_record}
use Rattle.ob_site_settling.specs.declared.spans.Span.{Span}

-- how many records there are, and the times of the first and of the last (oBIX 1.1, section 14.1)
abbrev pub span_of : List Record → Span
span_of rs = record {
  count = length rs;
  first = option_map (λ r. r.time) (first_record rs);
  last = option_map (λ r. r.time) (last_item rs);
}

-- what is shown is the same
abbrev pub same_spans : Span → Span → Bool
same_spans a b =
    same_slot (number_slot a.count) (number_slot b.count)
    && (same_slot (time_slot a.first) (time_slot b.first) && same_slot (time_slot a.last) (time_slot b.last))

-- how many of so many records a history drops, down to its capacity
abbrev pub dropped_by : Option ℕ → ℕ → ℕ
dropped_by None n = 0
dropped_by (Some capacity) n = n - capacity
