-- What is told of what was found.
use Rattle.std.proofs.Common.{◌≡◌, ℕ, List, [], map, subst, arith, ◌⊎◌, inl, inr, ◌<◌, length, get_or, pos, ℤ, ◌+ℤ◌, ◌≤ℤ◌}
use Rattle.std.specs.List.{Contains}
use Rattle.std.specs.List.Sorted.{IsStrictlySortedBy}
use Rattle.std.proofs.lemmas.Int.{ints}
use Rattle.std.proofs.lemmas.List.Elements.{Contains-get_or}
use Rattle.jiff.specs.Types.{TimeZone}
use Rattle.ob_weekly.specs.declared.due.Due.{Due}
use Rattle.ob_weekly.specs.declared.firing.Firing.{Firing}
use Rattle.ob_weekly.specs.declared.schedule.Schedule.{Schedule}
use Rattle.ob_weekly.specs.Firings.{AreFirings, firing_of}
use Rattle.ob_weekly.specs.Search.{Adds, IsOrderOf, AreAll, AreDue}

pub not_in_none : {A : Type 0} (x : A) → Contains [] x → ⊥
not_in_none x c = omega (arith, c.1)

-- what was found from nothing on, in order
pub are_all : (P : Due → Type 0) (none found dues : List Due) → none ≡ [] → Adds P none found → IsOrderOf found dues → AreAll P dues
are_all P none found dues empty adds order = record {
  order = order.order;
  exact = λ d. (
    λ c. elim ((adds d).0 ((order.same d).0 c)) [
      | inl n ↦ absurd (not_in_none d (subst (λ l. Contains l d) empty n))
      | inr p ↦ p
    ],
    λ h. (order.same d).1 ((adds d).1 (inr h)),
  );
}

-- the window: after the first moment, and not more than 3,024,000,000 ms before the second
pub are_firings : (zone : TimeZone) (schedules : List Schedule) (from to : ℕ) (low upto : ℤ) (dues : List Due) (firings : List Firing)
    → ((pos from ≤ℤ low) × (pos to ≤ℤ (low +ℤ pos 3_024_000_001))) → ((low ≡ pos from) ⊎ ((low +ℤ pos 3_024_000_001) ≡ pos to)) → upto ≡ pos to
    → AreDue zone schedules low upto dues → firings ≡ map firing_of dues → AreFirings zone schedules from to firings
are_firings zone schedules from to low upto dues firings least is upto_is due told = record {
  dues = dues;
  order = due.order;
  exact = λ d. (
    λ c. let p = (due.exact d).0 c in let after = p.1.0 in let before = p.1.1 in
        (p.0, omega (arith, ints, after, least.0), omega (arith, ints, before, upto_is), omega (arith, ints, after, least.1)),
    λ h. (due.exact d).1 (
      h.0,
      (
        elim is [
          | inl e ↦ (let after = h.1 in omega (arith, ints, e, after))
          | inr e ↦ (let near = h.3 in omega (arith, ints, e, near))
        ],
        (let before = h.2 in omega (arith, ints, before, upto_is)),
      ),
    ),
  );
  firings_are = told;
}

-- their instants are moments
pub all_moments : (zone : TimeZone) (schedules : List Schedule) (low to : ℤ) (dues : List Due) → pos 0 ≤ℤ low → to ≤ℤ pos 253_402_300_799_999 → AreDue zone schedules low to dues
    → (k : ℕ) (d : Due) → k < length dues → (pos 0 ≤ℤ (get_or dues k d).at) × ((get_or dues k d).at ≤ℤ pos 253_402_300_799_999)
all_moments zone schedules low to dues first last due k d here =
    let p = ((due.exact (get_or dues k d)).0 (Contains-get_or dues k d here)).1 in
    let after = p.0 in
    let before = p.1 in
    (omega (arith, ints, after, first), omega (arith, ints, before, last))

-- where the second moment isn't after the first there are none
pub no_firings : (zone : TimeZone) (schedules : List Schedule) (from to : ℕ) (firings : List Firing) → (pos to ≤ℤ pos from) → firings ≡ [] → AreFirings zone schedules from to firings
unfolding IsStrictlySortedBy
no_firings zone schedules from to firings early none = record {
  dues = [];
  order = tt;
  exact = λ d. (λ c. absurd (not_in_none d c), λ h. let after = h.1 in let upto = h.2 in absurd (omega (arith, ints, early, after, upto)));
  firings_are = none;
}
