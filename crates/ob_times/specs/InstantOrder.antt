-- Instants are ordered by their nanoseconds, and then by offset: a total order that agrees with equality.
use Rattle.std.specs.declared.cmp.Ordering.{Ordering}
use Rattle.std.specs.Ordering.{nat_cmp, int_cmp, on, then_cmp}
use Rattle.ob_times.specs.Times.{Instant}

-- the seconds and the nanoseconds, of which there are less than a second's, and then the offset
abbrev pub instant_cmp : Instant → Instant → Ordering
instant_cmp = then_cmp (on (λ a. a.seconds) int_cmp) (then_cmp (on (λ a. a.nanos) nat_cmp) (on (λ a. a.offset) int_cmp))
