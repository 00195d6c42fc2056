-- Until when nothing fires.
use Rattle.std.proofs.Common.{◌≡◌, ◌≤◌, ℕ, ℤ, pos, ◌+ℤ◌, ◌≤ℤ◌, ◌<ℤ◌, List, [], ◌∷◌, arith, refl, length, inl, inr}
use Rattle.std.specs.Prelude.{slice_index_or}
use Rattle.std.specs.List.{All, Contains}
use Rattle.std.specs.List.Sorted.{IsStrictlySortedBy}
use Rattle.std.proofs.lemmas.Int.{ints}
use Rattle.std.proofs.lemmas.List.Elements.{Contains-get_or}
use Rattle.jiff.specs.Types.{TimeZone}
use Rattle.jiff.specs.Words.{IsBetween}
use Rattle.ob_weekly.specs.declared.due.Due.{Due}
use Rattle.ob_weekly.specs.declared.schedule.Schedule.{Schedule}
use Rattle.ob_weekly.specs.Firings.{IsDue, IsQuiet, IsQuietUntil, HasNext, AreFirings, due_cmp}
use Rattle.ob_weekly.specs.Search.{AreDue, IsJustBefore}
use Rattle.ob_weekly.proofs.Told.{not_in_none}

module _ (zone : TimeZone) (schedules : List Schedule) (low high : ℤ) (dues : List Due) (all : AreDue zone schedules low high dues) where
  -- where nothing is due, it is quiet
  pub none_due : (from to : ℕ) → low ≤ℤ pos from → pos to ≤ℤ high → length dues ≤ 0 → IsQuiet zone schedules from to
  none_due from to l h none = λ d due after upto.
      let there = (all.exact d).1 (due, (omega (arith, ints, l, after), omega (arith, ints, h, upto))) in
      omega (arith, none, there.1)

  -- what is due lies behind a moment and no later than another
  pub due_range : pos 0 ≤ℤ low → high ≤ℤ pos 253_402_300_799_999 → All (λ d. IsBetween (pos 1) (pos 253_402_300_799_999) d.at) dues
  due_range l h = λ k d there.
      let is = (all.exact (slice_index_or dues k d)).0 (Contains-get_or dues k d there) in
      (omega (arith, ints, is.1.0, l), omega (arith, ints, is.1.1, h))

  -- up to just before the first it is quiet
  pub before_first : (from until : ℕ) → low ≤ℤ pos from → IsJustBefore dues until → IsQuiet zone schedules from until
  before_first from until l b = λ d due after upto.
      let first = (all.exact b.0).0 b.1 in
      let there = (all.exact d).1 (due, (omega (arith, ints, l, after), omega (arith, ints, upto, b.2, first.1.1))) in
      let least = b.3 all.order d there in
      omega (arith, ints, b.2, upto, least)

  -- and just behind that something fires
  pub next_first : (until : ℕ) → IsJustBefore dues until → HasNext zone schedules until
  next_first until b = (b.0, ((all.exact b.0).0 b.1).0, b.2)

-- within a quiet time nothing fires
pub no_firings : (zone : TimeZone) (schedules : List Schedule) (from to until : ℕ) → IsQuiet zone schedules from until → to ≤ until → AreFirings zone schedules from to []
unfolding IsStrictlySortedBy
no_firings zone schedules from to until quiet upto = record {
  dues = [];
  order = tt;
  exact = λ d. (λ c. absurd (not_in_none d c), λ is. absurd (quiet d is.0 is.1 (omega (arith, ints, is.2, upto))));
  firings_are = refl;
}

-- what is quiet is quiet from any later moment on
pub quiet_later : (zone : TimeZone) (schedules : List Schedule) (from later until : ℕ) → IsQuiet zone schedules from until → from ≤ later → IsQuiet zone schedules later until
quiet_later zone schedules from later until quiet h = λ d due after upto. quiet d due (omega (arith, ints, after, h)) upto

-- for no time at all
pub quiet_at_once : (zone : TimeZone) (schedules : List Schedule) (moment : ℕ) → IsQuiet zone schedules moment moment
quiet_at_once zone schedules moment = λ d due after upto. omega (arith, ints, after, upto)
