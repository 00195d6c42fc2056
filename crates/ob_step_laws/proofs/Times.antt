-- Instants, and the moments that aren't before them.
use Rattle.std.proofs.Common.{◌≡◌, ℕ, ◌+◌, ◌*◌, ◌/◌, ◌%◌, ◌<◌, ◌≤◌, ℤ, pos, negsuc, ◌≤ℤ◌, int_lt, false, arith, div-add-mod', mod-lt}
use Rattle.std.proofs.lemmas.Int.{ints}
use Rattle.ob_times.specs.Times.{Instant, instant, moment_instant}
use Rattle.ob_site_rules.specs.Loading.{ms_up, last_moment, is_earlier}

abbrev in_ms : ℕ → ℕ
in_ms n = (n + 999_999) / 1_000_000

record Rounds (n : ℕ) : Type 0 where
  pub low : n ≤ in_ms n * 1_000_000
  pub high : in_ms n * 1_000_000 ≤ n + 999_999

rounds : (n : ℕ) → Rounds n
rounds n =
    let e : in_ms n * 1_000_000 + (n + 999_999) % 1_000_000 ≡ n + 999_999 = div-add-mod' (n + 999_999) 1_000_000 in
    let small : (n + 999_999) % 1_000_000 < 1_000_000 = mod-lt (n + 999_999) (omega arith) in
    record { low = omega (arith, e, small); high = omega (arith, e) }

no_later : (s n : ℕ) → int_lt (pos 253_402_300_799_999_000_000) (pos (s * 1_000_000_000 + n)) ≡ false → s * 1_000_000_000 + n ≤ 253_402_300_799_999_000_000
no_later s n h = grind (arith, ints)

ms_up_by : (s : ℤ) (n : ℕ) (o : ℤ) → int_lt (instant (moment_instant last_moment)) (instant (record { seconds = s; nanos = n; offset = o })) ≡ false → ms_up (record { seconds = s; nanos = n; offset = o }) ≤ last_moment
ms_up_by (pos s) n o h =
    let r : Rounds n = rounds n in
    let g : s * 1_000_000_000 + n ≤ 253_402_300_799_999_000_000 = no_later s n h in
    omega (arith, r.high, g)
ms_up_by (negsuc s) n o h = omega arith

-- an instant that isn't after the last moment has a moment that isn't before it
pub ms_up_most : (t : Instant) → is_earlier (moment_instant last_moment) t ≡ false → ms_up t ≤ last_moment
ms_up_most t h = ms_up_by t.seconds t.nanos t.offset h

not_after_by : (s : ℤ) (n : ℕ) (o : ℤ) (m : ℕ) → n < 1_000_000_000 → ms_up (record { seconds = s; nanos = n; offset = o }) ≤ m → instant (record { seconds = s; nanos = n; offset = o }) ≤ℤ instant (moment_instant m)
not_after_by (pos s) n o m small h =
    let r : Rounds n = rounds n in
    let e : m / 1_000 * 1_000 + m % 1_000 ≡ m = div-add-mod' m 1_000 in
    let g : s * 1000 + in_ms n ≤ m = h in
    omega (arith, ints, r.low, e, g)
not_after_by (negsuc s) n o m small h =
    let e : m / 1_000 * 1_000 + m % 1_000 ≡ m = div-add-mod' m 1_000 in
    omega (arith, ints, small, e)

pub not_after : (t : Instant) (m : ℕ) → t.nanos < 1_000_000_000 → ms_up t ≤ m → instant t ≤ℤ instant (moment_instant m)
not_after t m small h = not_after_by t.seconds t.nanos t.offset m small h

-- one instant isn't before another one
pub not_before : (s t : Instant) → is_earlier t s ≡ false → instant s ≤ℤ instant t
not_before s t h = by (instant s) (instant t) h
  where
    by : (y z : ℤ) → int_lt z y ≡ false → y ≤ℤ z
    by y z e = omega (arith, ints)
