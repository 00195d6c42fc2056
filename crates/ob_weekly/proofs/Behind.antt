-- What is in force behind firings.
use Rattle.std.proofs.Common.{◌≡◌, ℕ, ◌≤◌, Bool, true, false, cond, nat_eq, List, [], ◌∷◌, map, Some, refl, ap, sym, subst, ◌∙◌, arith, ◌⊎◌, inl, inr, ℤ, pos, ◌+ℤ◌, ◌<ℤ◌, ◌≤ℤ◌}
use Rattle.std.specs.Prelude.{slice_get, option_map, option_and_then, unwrap_or}
use Rattle.std.specs.List.{Contains}
use Rattle.std.specs.List.Sorted.{IsStrictlySortedBy}
use Rattle.std.specs.Ordering.{is_gt}
use Rattle.std.specs.declared.cmp.Ordering.TheVariants.{Less}
use Rattle.std.proofs.lemmas.Int.{ints}
use Rattle.std.proofs.lemmas.Bool.{eqb-true}
use Rattle.jiff.specs.Types.{TimeZone}
use Rattle.ob_object.specs.declared.head.Slot.{Slot}
use Rattle.ob_weekly.specs.declared.due.Due.{Due}
use Rattle.ob_weekly.specs.declared.firing.Firing.{Firing}
use Rattle.ob_weekly.specs.declared.schedule.Entry.{Entry}
use Rattle.ob_weekly.specs.declared.schedule.Schedule.{Schedule}
use Rattle.ob_weekly.specs.Firings.{IsDue, due_cmp, firing_of, IsInForce}
use Rattle.ob_weekly.proofs.Lists.{last_of, earlier_is}
use Rattle.ob_weekly.proofs.OneList.{head_in, later_in, first_or, of_all}
use Rattle.ob_weekly.proofs.Order.{due_total}
use Rattle.ob_weekly.proofs.Told.{not_in_none}
use Rattle.ob_weekly.specs.Behind.{slot_of, left_of, InForceBehind}
use Rattle.ob_weekly.proofs.Again.{since_then}

-- a firing writes the slot of its entry
writes : (zone : TimeZone) (schedules : List Schedule) (d : Due) (p : IsDue zone schedules d) → slot_of schedules (firing_of d) ≡ Some p.entry.slot
writes zone schedules d p =
    ap (option_and_then (λ (s : Schedule). option_map (λ (e : Entry). e.slot) (slice_get s.entries.items d.entry))) p.schedule_is
    ∙ ap (option_map (λ (e : Entry). e.slot)) p.entry_is

-- no firing of a list is of the schedule, or one is the last
record NoneOf (schedules : List Schedule) (k : ℕ) (dues : List Due) (slot : Slot) : Type 0 where
  pub none : (d : Due) → Contains dues d → d.schedule ≡ k → ⊥
  pub left : left_of schedules k (map firing_of dues) slot ≡ slot

record LastOf (zone : TimeZone) (schedules : List Schedule) (k : ℕ) (dues : List Due) (slot : Slot) : Type 0 where
  pub last : Due
  pub one : Contains dues last
  pub of : last.schedule ≡ k
  pub greatest : (d : Due) → Contains dues d → d.schedule ≡ k → is_gt (due_cmp d last) ≡ false
  pub left : (p : IsDue zone schedules last) → left_of schedules k (map firing_of dues) slot ≡ p.entry.slot

module _ (zone : TimeZone) (schedules : List Schedule) (k : ℕ) where
  last_or_none : (dues : List Due) (slot : Slot) → IsStrictlySortedBy due_cmp dues → ((d : Due) → Contains dues d → IsDue zone schedules d)
      → NoneOf schedules k dues slot ⊎ LastOf zone schedules k dues slot
  unfolding IsStrictlySortedBy
  last_or_none [] slot sorted due = inl (record { none = λ d c is. not_in_none d c; left = refl })
  last_or_none (x ∷ xs) slot sorted due =
      by_rest (last_or_none xs slot_then sorted.1 (λ d c. due d (later_in x d xs c)))
    where
      slot_then : Slot
      slot_then = cond (nat_eq x.schedule k) (unwrap_or (slot_of schedules (firing_of x)) slot) slot

      by_test : NoneOf schedules k xs slot_then → (b : Bool) → nat_eq x.schedule k ≡ b → NoneOf schedules k (x ∷ xs) slot ⊎ LastOf zone schedules k (x ∷ xs) slot
      by_test rest true is = inr (record {
        last = x;
        one = head_in x xs;
        of = eqb-true x.schedule k is;
        greatest = λ d c e. elim (first_or x d xs c) [
          | inl same ↦ last_of due_cmp due_total (x ∷ []) 0 x (omega arith) refl (tt, tt) d (subst (Contains (x ∷ [])) same (head_in x []))
          | inr later ↦ absurd (rest.none d later e)
        ];
        left = λ p. rest.left ∙ (ap (λ b. cond b (unwrap_or (slot_of schedules (firing_of x)) slot) slot) is ∙ ap (λ o. unwrap_or o slot) (writes zone schedules x p));
      })
      by_test rest false is = inl (record {
        none = λ d c e. elim (first_or x d xs c) [
          | inl same ↦ other x.schedule k is (ap (λ (y : Due). y.schedule) same ∙ e)
          | inr later ↦ rest.none d later e
        ];
        left = rest.left ∙ ap (λ b. cond b (unwrap_or (slot_of schedules (firing_of x)) slot) slot) is;
      })
        where
          other : (a b : ℕ) → nat_eq a b ≡ false → a ≡ b → ⊥
          other a b f e = grind (arith, f, e)

      by_rest : NoneOf schedules k xs slot_then ⊎ LastOf zone schedules k xs slot_then → NoneOf schedules k (x ∷ xs) slot ⊎ LastOf zone schedules k (x ∷ xs) slot
      by_rest (inl rest) = by_test rest (nat_eq x.schedule k) refl
      by_rest (inr rest) = inr (record {
        last = rest.last;
        one = later_in x rest.last xs rest.one;
        of = rest.of;
        greatest = λ d c e. elim (first_or x d xs c) [
          | inl same ↦ subst (λ (z : Due). is_gt (due_cmp z rest.last) ≡ false) same (ap is_gt (of_all (λ z. due_cmp x z ≡ Less) xs rest.last sorted.0 rest.one))
          | inr later ↦ rest.greatest d later e
        ];
        left = rest.left;
      })

after_or : (low at : ℤ) → (low <ℤ at) ⊎ (at ≤ℤ low)
after_or low at = grind (arith, ints)

near_or : (to at : ℤ) → (to ≤ℤ (at +ℤ pos 3_024_000_000)) ⊎ ((at +ℤ pos 3_024_000_000) <ℤ to)
near_or to at = grind (arith, ints)

pub in_force_behind : InForceBehind
in_force_behind zone schedules k from to slot firings rises moment force fires =
    subst (λ (l : List Firing). IsInForce zone schedules k to (left_of schedules k l slot)) (sym fires.firings_are)
    (by_last (last_or_none zone schedules k fires.dues slot fires.order (λ d c. ((fires.exact d).0 c).0)))
  where
    by_last : NoneOf schedules k fires.dues slot ⊎ LastOf zone schedules k fires.dues slot → IsInForce zone schedules k to (left_of schedules k (map firing_of fires.dues) slot)
    by_last (inl none) = subst (IsInForce zone schedules k to) (sym none.left) (record {
      last = force.last;
      is = force.is;
      of = force.of;
      past = (let past = force.past in omega (arith, ints, past, rises));
      none_later = λ d p of past. elim (after_or (pos from) d.at) [
        | inl after ↦ (
            let since = since_then zone schedules d to p past moment in
            let later = since.since in
            absurd (none.none since.due ((fires.exact since.due).1 (since.is, omega (arith, ints, after, later), since.upto, since.near)) (since.of ∙ of))
            )
        | inr before ↦ force.none_later d p of before
      ];
      slot_is = force.slot_is;
    })
    by_last (inr last) =
        let c = (fires.exact last.last).0 last.one in
        let after = c.1 in
        let near = c.3 in
        record {
          last = last.last;
          is = c.0;
          of = last.of;
          past = c.2;
          none_later = λ d p of past. elim (after_or (pos from) d.at) [
            | inl d_after ↦ elim (near_or (pos to) d.at) [
              | inl d_near ↦ last.greatest d ((fires.exact d).1 (p, d_after, past, d_near)) of
              | inr far ↦ earlier_is d last.last (omega (arith, ints, far, near))
            ]
            | inr before ↦ earlier_is d last.last (omega (arith, ints, before, after))
          ];
          slot_is = last.left c.0;
        }
