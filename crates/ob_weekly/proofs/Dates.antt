-- Dates on which an entry fires, and their instants.
use Rattle.std.proofs.Common.{◌≡◌, ℕ, ◌+◌, ◌*◌, ◌<◌, ◌≤◌, refl, ap, sym, ◌∙◌, subst, arith, pos, neg_ℤ, ℤ, ◌+ℤ◌, ◌-ℤ◌, ◌*ℤ◌, ◌<ℤ◌, ◌≤ℤ◌}
use Rattle.std.proofs.lemmas.Int.{ints}
use Rattle.jiff.specs.Types.{DateTime, TimeZone}
use Rattle.jiff.specs.Words.{IsBetween, epoch_day, time_nanos, compatible_offset, ambiguous_at, picked_instant}
use Rattle.jiff.proofs.Family.{same_datetime, civil_nanos-parts}
use Rattle.ob_weekly.specs.declared.schedule.Entry.{Entry}
use Rattle.std.proofs.Common.{List, [], ◌∷◌, length, Some, None, ◌⊎◌, inl, inr}
use Rattle.std.specs.Prelude.{slice_get, zero, suc}
use Rattle.ob_weekly.specs.declared.schedule.Schedule.{Schedule}
use Rattle.jiff_core.specs.Calendar.{weekday_number}
use Rattle.ob_weekly.proofs.Adding.{adds_same, no_day, idle_days}
use Rattle.ob_weekly.proofs.Days.{within_week}
use Rattle.ob_weekly.specs.declared.due.Due.{Due}
use Rattle.ob_weekly.specs.declared.due.Place.{Place}
use Rattle.ob_weekly.specs.Search.{FiresOn, IsDueOn, IsDueOf, IsDueAt, IsDueIn, IsDueInAt, IsDueAmong, UpToDay, UpToPlace, Adds}

-- one date and one time of day
pub one_civil : (a b : DateTime) (day : ℤ) (nanos : ℕ) → epoch_day a.date ≡ day → epoch_day b.date ≡ day → time_nanos a.time ≡ nanos → time_nanos b.time ≡ nanos → a ≡ b
one_civil a b day nanos da db ta tb =
    same_datetime a b (civil_nanos-parts a ∙ (ap (λ d. (d *ℤ pos 86_400_000_000_000) +ℤ pos (time_nanos a.time)) (da ∙ sym db)
    ∙ (ap (λ (t : ℕ). (epoch_day b.date *ℤ pos 86_400_000_000_000) +ℤ pos t) (ta ∙ sym tb) ∙ sym (civil_nanos-parts b))))

-- the offset of a date and time is at most 93,599 s
offset_range : (zone : TimeZone) (c : DateTime) → IsBetween (neg_ℤ (pos 93_599)) (pos 93_599) (compatible_offset (ambiguous_at zone c)).seconds
offset_range zone c = (compatible_offset (ambiguous_at zone c)).in_range

-- the instant is that of the time of day less the offset
pub picked : (zone : TimeZone) (c : DateTime) → picked_instant zone c ≡ ((epoch_day c.date *ℤ pos 86_400_000_000_000) +ℤ pos (time_nanos c.time)) -ℤ ((compatible_offset (ambiguous_at zone c)).seconds *ℤ pos 1_000_000_000)
picked zone c = ap (λ n. n -ℤ ((compatible_offset (ambiguous_at zone c)).seconds *ℤ pos 1_000_000_000)) (civil_nanos-parts c)

-- so in milliseconds
pub in_ms : (zone : TimeZone) (c : DateTime) (day at : ℤ) (ms : ℕ) → epoch_day c.date ≡ day → time_nanos c.time ≡ ms * 1_000_000
    → at ≡ ((day *ℤ pos 86_400_000) +ℤ pos ms) -ℤ ((compatible_offset (ambiguous_at zone c)).seconds *ℤ pos 1_000) → at *ℤ pos 1_000_000 ≡ picked_instant zone c
in_ms zone c day at ms date time is = omega (arith, ints, picked zone c, date, time, is)

-- a day's firing is at most 93,599,000 ms before the day, and at most 180,000,000 ms after it begins
pub near_day : (zone : TimeZone) (e : Entry) (day at : ℤ) → e.at_ms < 86_400_000 → FiresOn zone e day at → IsBetween ((day *ℤ pos 86_400_000) -ℤ pos 93_599_000) ((day *ℤ pos 86_400_000) +ℤ pos 180_000_000) at
near_day zone e day at small f =
    let p = picked zone f.civil in
    let r = offset_range zone f.civil in
    (omega (arith, ints, p, r, f.date, f.time, f.instant), omega (arith, ints, p, r, f.date, f.time, f.instant))

-- and less than 26 hours from what a clock at no offset shows
pub near_local : (zone : TimeZone) (e : Entry) (day at : ℤ) → FiresOn zone e day at
    → IsBetween (((day *ℤ pos 86_400_000) +ℤ pos e.at_ms) -ℤ pos 93_599_000) (((day *ℤ pos 86_400_000) +ℤ pos e.at_ms) +ℤ pos 93_599_000) at
near_local zone e day at f =
    let p = picked zone f.civil in
    let r = offset_range zone f.civil in
    (omega (arith, ints, p, r, f.date, f.time, f.instant), omega (arith, ints, p, r, f.date, f.time, f.instant))

-- the day is of the entry's weekday
pub on_weekday : (zone : TimeZone) (e : Entry) (day at : ℤ) → FiresOn zone e day at → weekday_number day + 1 ≡ e.day
on_weekday zone e day at f = ap (λ n. weekday_number n + 1) (sym f.date) ∙ f.weekday

-- an entry fires on a day at one instant
pub one_instant : (zone : TimeZone) (e : Entry) (day at other : ℤ) → FiresOn zone e day at → FiresOn zone e day other → at ≡ other
one_instant zone e day at other f g =
    let same : f.civil ≡ g.civil = one_civil f.civil g.civil day (e.at_ms * 1_000_000) f.date g.date f.time g.time in
    let at_one : at *ℤ pos 1_000_000 ≡ other *ℤ pos 1_000_000 = f.instant ∙ (ap (picked_instant zone) same ∙ sym g.instant) in
    omega (arith, ints)

-- where the last day isn't the very last, what fires behind it is too late
on_time : (zone : TimeZone) (e : Entry) (low to last n at : ℤ) → e.at_ms < 86_400_000 → (last <ℤ pos 2_932_893 → to <ℤ ((last *ℤ pos 86_400_000) -ℤ pos 7_200_000)) → FiresOn zone e n at → n ≤ℤ pos 2_932_893 → at ≤ℤ to → n ≤ℤ last
on_time zone e low to last n at small covers f n_last upto =
    elim (low_or last) [
      | inl lt ↦ (let near = (near_day zone e n at small f).0 in let early = covers lt in omega (arith, ints, near, early, upto))
      | inr high ↦ omega (arith, ints, high, n_last)
    ]
  where
    low_or : (z : ℤ) → (z <ℤ pos 2_932_893) ⊎ (pos 2_932_893 ≤ℤ z)
    low_or z = grind (arith, ints)

-- the days from the first to the last are all on which the entry can fire after the one instant and up to the other
pub all_days : (zone : TimeZone) (place : Place) (e : Entry) (low to first last day : ℤ) (old new : List Due) → e.at_ms < 86_400_000
    → ((first *ℤ pos 86_400_000) +ℤ pos 93_600_000) ≤ℤ low → (last <ℤ pos 2_932_893 → to <ℤ ((last *ℤ pos 86_400_000) -ℤ pos 7_200_000)) → last <ℤ day
    → UpToDay (IsDueOn zone place e low to) old first day new → Adds (IsDueOf zone place e low to) old new
all_days zone place e low to first last day old new small from covers past up d = (
  λ c. elim ((up d).0 c) [
    | inl o ↦ inl o
    | inr h ↦ (let f = h.3.fires in inr (record {
      schedule = h.3.schedule;
      entry = h.3.entry;
      day = h.3.day_is;
      time = h.3.time;
      fires = record { civil = f.civil; weekday = f.weekday; time = f.time; last = omega (arith, ints, f.date, h.3.last); instant = f.instant };
      within = h.3.within;
    }))
  ],
  λ w. elim w [
    | inl o ↦ (up d).1 (inl o)
    | inr p ↦ (let f = p.fires in
        let n = epoch_day f.civil.date in
        let on : FiresOn zone e n d.at = record { civil = f.civil; date = refl; weekday = f.weekday; time = f.time; instant = f.instant } in
        let near = (near_day zone e n d.at small on).1 in
        let after = p.within.0 in
        let high = on_time zone e low to last n d.at small covers on f.last p.within.1 in
        (up d).1 (inr (
          n,
          omega (arith, ints, near, after, from),
          omega (arith, ints, high, past),
          record {
            schedule = p.schedule;
            entry = p.entry;
            day_is = p.day;
            time = p.time;
            fires = on;
            last = f.last;
            within = p.within;
          },
        )))
  ],
)

pub same_due : (x d : Due) → x.at ≡ d.at → x.schedule ≡ d.schedule → x.day ≡ d.day → x.at_ms ≡ d.at_ms → x.entry ≡ d.entry → x ≡ d
same_due x d at schedule day time entry = λ i. record { at = at i; schedule = schedule i; day = day i; at_ms = time i; entry = entry i }

-- one is due of an entry on a day
pub one_due : (zone : TimeZone) (place : Place) (e : Entry) (low to day : ℤ) (x d : Due) → IsDueOn zone place e low to day x → IsDueOn zone place e low to day d → x ≡ d
one_due zone place e low to day x d p q =
    same_due x d (one_instant zone e day x.at d.at p.fires q.fires) (p.schedule ∙ sym q.schedule) (p.day_is ∙ sym q.day_is) (p.time ∙ sym q.time) (p.entry ∙ sym q.entry)

-- nothing is due before the first date of the weekday
pub first_week : (zone : TimeZone) (place : Place) (e : Entry) (low to first day : ℤ) (old : List Due) → first ≤ℤ day → day ≤ℤ (first +ℤ pos 6) → weekday_number day + 1 ≡ e.day
    → UpToDay (IsDueOn zone place e low to) old first day old
first_week zone place e low to first day old from near weekday =
    idle_days (IsDueOn zone place e low to) old old first first day from (no_day (IsDueOn zone place e low to) old first)
    (λ n d ge lt p. within_week n day lt (omega (arith, ints, ge, near)) (let on = on_weekday zone e n d.at p.fires in omega (arith, on, weekday)))

-- nothing is due between a date of the weekday and the next
pub next_date : (zone : TimeZone) (place : Place) (e : Entry) (low to first day : ℤ) (old cur : List Due) → weekday_number day + 1 ≡ e.day
    → UpToDay (IsDueOn zone place e low to) old first (day +ℤ pos 1) cur → UpToDay (IsDueOn zone place e low to) old first (day +ℤ pos 7) cur
next_date zone place e low to first day old cur weekday up =
    idle_days (IsDueOn zone place e low to) old cur first (day +ℤ pos 1) (day +ℤ pos 7) (omega (arith, ints)) up
    (λ n d ge lt p. within_week day n (omega (arith, ints, ge)) lt (let on = on_weekday zone e n d.at p.fires in omega (arith, on, weekday)))

-- a place at which something stands is below the length
pub place_below : {A : Type 0} (xs : List A) (k : ℕ) (x : A) (n : ℕ) → length xs ≤ n → slice_get xs k ≡ Some x → k < n
place_below [] k x n enough at = absurd (let e : None ≡ Some x = at in cc)
place_below (y ∷ ys) zero x n enough at = omega (arith, enough)
place_below (y ∷ ys) (suc k) x n enough at = let below = place_below ys k x (length ys) (omega arith) at in omega (arith, enough, below)

some_one : {A : Type 0} (a b : A) → Some a ≡ Some b → a ≡ b
some_one a b e = cc

-- what is due of the entry at a place is due at this place
pub adds_at : (zone : TimeZone) (schedule : ℕ) (entries : List Entry) (low to : ℤ) (k : ℕ) (e : Entry) (old new : List Due) → slice_get entries k ≡ Some e
    → Adds (IsDueOf zone (record { schedule = schedule; entry = k }) e low to) old new → Adds (IsDueAt zone schedule entries low to k) old new
adds_at zone schedule entries low to k e old new at adds =
    adds_same (IsDueOf zone (record { schedule = schedule; entry = k }) e low to) (IsDueAt zone schedule entries low to k) old new
    (λ d h. (e, at, h))
    (λ d h. subst (λ x. IsDueOf zone (record { schedule = schedule; entry = k }) x low to d) (some_one h.0 e (sym h.1 ∙ at)) h.2)
    adds

-- the places of all entries
pub all_places : (zone : TimeZone) (schedule : ℕ) (entries : List Entry) (low to : ℤ) (n : ℕ) (old new : List Due) → length entries ≤ n
    → UpToPlace (IsDueAt zone schedule entries low to) old n new → Adds (IsDueIn zone schedule entries low to) old new
all_places zone schedule entries low to n old new enough up d = (
  λ c. elim ((up d).0 c) [
    | inl o ↦ inl o
    | inr h ↦ (let due = h.2.2 in inr (record {
      it = h.2.0;
      it_is = ap (slice_get entries) due.entry ∙ h.2.1;
      due = record { schedule = due.schedule; entry = refl; day = due.day; time = due.time; fires = due.fires; within = due.within };
    }))
  ],
  λ w. elim w [
    | inl o ↦ (up d).1 (inl o)
    | inr p ↦ (up d).1 (inr (d.entry, place_below entries d.entry p.it n enough p.it_is, (p.it, p.it_is, p.due)))
  ],
)

-- what is due of the schedule at a place
pub adds_in : (zone : TimeZone) (schedules : List Schedule) (low to : ℤ) (k : ℕ) (s : Schedule) (old new : List Due) → slice_get schedules k ≡ Some s
    → Adds (IsDueIn zone k s.entries.items low to) old new → Adds (IsDueInAt zone schedules low to k) old new
adds_in zone schedules low to k s old new at adds =
    adds_same (IsDueIn zone k s.entries.items low to) (IsDueInAt zone schedules low to k) old new
    (λ d h. (s, at, h))
    (λ d h. subst (λ (x : Schedule). IsDueIn zone k x.entries.items low to d) (some_one h.0 s (sym h.1 ∙ at)) h.2)
    adds

-- the places of all schedules
pub all_schedules : (zone : TimeZone) (schedules : List Schedule) (low to : ℤ) (n : ℕ) (old new : List Due) → length schedules ≤ n
    → UpToPlace (IsDueInAt zone schedules low to) old n new → Adds (IsDueAmong zone schedules low to) old new
all_schedules zone schedules low to n old new enough up d = (
  λ c. elim ((up d).0 c) [
    | inl o ↦ inl o
    | inr h ↦ (let p = h.2.2 in let due = p.due in inr (
      record {
        schedule = h.2.0;
        entry = p.it;
        schedule_is = ap (slice_get schedules) due.schedule ∙ h.2.1;
        entry_is = p.it_is;
        day = due.day;
        time = due.time;
        fires = due.fires;
      },
      due.within,
    ))
  ],
  λ w. elim w [
    | inl o ↦ (up d).1 (inl o)
    | inr p ↦ (let q = p.0 in (up d).1 (inr (
      d.schedule,
      place_below schedules d.schedule q.schedule n enough q.schedule_is,
      (
        q.schedule,
        q.schedule_is,
        record {
          it = q.entry;
          it_is = q.entry_is;
          due = record { schedule = refl; entry = refl; day = q.day; time = q.time; fires = q.fires; within = p.1 };
        },
      ),
    )))
  ],
)
