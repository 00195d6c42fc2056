-- The rows, by computing.
use Rattle.std.proofs.Common.{◌≤ℤ◌, arith, pos, refl}
use Rattle.jiff.proofs.OnLiterals.{jiff_on_literals}
use Rattle.jiff.specs.Types.{DateTime}
use Rattle.jiff.specs.Words.{epoch_day}
use Rattle.jiff_core.specs.DateTime.{civil_nanos}
use Rattle.ob_weekly.specs.Rows.{Before1970, Fold, Gap, InRange, LastDate, Winter}
use Rattle.ob_weekly.specs.Zones.{last_day}

-- they are in their ranges
pub in_range : InRange
in_range = record {
  five_west = (Prim.search, Prim.search);
  four_west = (Prim.search, Prim.search);
  one_east = (Prim.search, Prim.search);
  march = Prim.search;
  november = Prim.search;
  two = (Prim.search, Prim.search);
}

unfoldable winter_clock : DateTime
winter_clock = record {
  date = record { year = pos 2026; month = 1; day = 5; year_in = Prim.search; month_in = (omega arith, omega arith); day_in = (omega arith, omega arith) };
  time = record { hour = 6; minute = 0; second = 0; subsec_nanosecond = 0; hour_in = omega arith; minute_in = omega arith; second_in = omega arith; subsec_in = omega arith };
}

winter_last : epoch_day winter_clock.date ≤ℤ last_day
unfolding jiff_on_literals winter_clock
winter_last = Prim.search

pub winter : Winter
unfolding jiff_on_literals civil_nanos winter_clock
winter = λ r std dst slot. record { civil = winter_clock; weekday = refl; time = refl; last = winter_last; instant = refl }

unfoldable gap_clock : DateTime
gap_clock = record {
  date = record { year = pos 2026; month = 3; day = 8; year_in = Prim.search; month_in = (omega arith, omega arith); day_in = (omega arith, omega arith) };
  time = record { hour = 2; minute = 30; second = 0; subsec_nanosecond = 0; hour_in = omega arith; minute_in = omega arith; second_in = omega arith; subsec_in = omega arith };
}

gap_last : epoch_day gap_clock.date ≤ℤ last_day
unfolding jiff_on_literals gap_clock
gap_last = Prim.search

pub gap : Gap
unfolding jiff_on_literals civil_nanos gap_clock
gap = λ r std dst slot. record { civil = gap_clock; weekday = refl; time = refl; last = gap_last; instant = refl }

unfoldable fold_clock : DateTime
fold_clock = record {
  date = record { year = pos 2026; month = 11; day = 1; year_in = Prim.search; month_in = (omega arith, omega arith); day_in = (omega arith, omega arith) };
  time = record { hour = 1; minute = 30; second = 0; subsec_nanosecond = 0; hour_in = omega arith; minute_in = omega arith; second_in = omega arith; subsec_in = omega arith };
}

fold_last : epoch_day fold_clock.date ≤ℤ last_day
unfolding jiff_on_literals fold_clock
fold_last = Prim.search

pub fold : Fold
unfolding jiff_on_literals civil_nanos fold_clock
fold = λ r std dst slot. record { civil = fold_clock; weekday = refl; time = refl; last = fold_last; instant = refl }

unfoldable before1970_clock : DateTime
before1970_clock = record {
  date = record { year = pos 1970; month = 1; day = 1; year_in = Prim.search; month_in = (omega arith, omega arith); day_in = (omega arith, omega arith) };
  time = record { hour = 0; minute = 30; second = 0; subsec_nanosecond = 0; hour_in = omega arith; minute_in = omega arith; second_in = omega arith; subsec_in = omega arith };
}

before1970_last : epoch_day before1970_clock.date ≤ℤ last_day
unfolding jiff_on_literals before1970_clock
before1970_last = Prim.search

pub before1970 : Before1970
unfolding jiff_on_literals civil_nanos before1970_clock
before1970 = λ r std slot. record { civil = before1970_clock; weekday = refl; time = refl; last = before1970_last; instant = refl }

unfoldable last_date_clock : DateTime
last_date_clock = record {
  date = record { year = pos 9999; month = 12; day = 28; year_in = Prim.search; month_in = (omega arith, omega arith); day_in = (omega arith, omega arith) };
  time = record { hour = 23; minute = 59; second = 59; subsec_nanosecond = 999_000_000; hour_in = omega arith; minute_in = omega arith; second_in = omega arith; subsec_in = omega arith };
}

last_date_last : epoch_day last_date_clock.date ≤ℤ last_day
unfolding jiff_on_literals last_date_clock
last_date_last = Prim.search

pub last_date : LastDate
unfolding jiff_on_literals civil_nanos last_date_clock
last_date = λ r std slot. record { civil = last_date_clock; weekday = refl; time = refl; last = last_date_last; instant = refl }
