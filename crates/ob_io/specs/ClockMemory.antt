-- What a clock in memory gave, and what it knows of its twins.
use Rattle.std.specs.Prelude.{ℕ, if◌then◌else◌, List, map, Option, Some, None}
use Rattle.ob_io.specs.Ticks.{ticks, told_ticks, Pace, pace_of}
use Rattle.ob_io.specs.Twins.{Twin}
use Rattle.ob_io.specs.declared.mem_clock.Returned.{Returned}
use Rattle.ob_io.specs.declared.mem_clock.MemClock.{MemClock}

abbrev pub clock_given : MemClock → Option (List ℕ)
clock_given s = told_ticks s.ticker.at s.ticker.tick s.ticker.k

abbrev pub clock_pace : MemClock → Pace
clock_pace s = pace_of s.ticker.at s.ticker.tick

-- the twin that came back so
abbrev pub twin_of : Returned → Twin
twin_of r = record { faults = r.faults; moments = ticks r.ticker.at r.ticker.tick r.ticker.k }

-- the twins that came back, while there was room for all of them
abbrev pub clock_twins : MemClock → Option (List Twin)
clock_twins s = if s.is_told then Some (map twin_of s.returned.items) else None
