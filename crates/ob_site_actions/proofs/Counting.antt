-- What one more value stores, and whether it can be counted.
use Rattle.std.proofs.Common.{◌≡◌, ℕ, zero, suc, ◌+◌, ◌-◌, ◌<◌, ◌≤◌, ◌^◌, min, Bool, true, false, not, ◌&&◌, ◌||◌, cond, List, [], ◌∷◌, length, Some, refl, sym, ap, ap₂, ◌∙◌, arith, length-append}
use Rattle.std.specs.Prelude.{slice_get, is_none, nat_le, nat_lt}
use Rattle.std.specs.List.{list_any}
use Rattle.std.proofs.lemmas.Bool.{lt-ltb, ltb-true, ltb-false}
use Rattle.std.proofs.lemmas.Bool.Decides.{nat_tests}
use Rattle.ob_times.specs.Times.{moment_instant}
use Rattle.ob_values.proofs.Bools.{neither, or_false}
use Rattle.ob_object.specs.declared.kind.Kind.{Kind}
use Rattle.ob_object.specs.declared.head.Head.{Head}
use Rattle.ob_object.specs.declared.head.Slot.{Slot}
use Rattle.ob_history.specs.declared.records.Record.{Record}
use Rattle.ob_alarms.specs.Changes.{State as Board}
use Rattle.ob_site_rules.specs.Build.{Path}
use Rattle.ob_site_rules.specs.declared.plan.Plan.{Plan}
use Rattle.ob_site_rules.specs.State.{Log, State, board}
use Rattle.ob_site_rules.specs.Sameness.{same_slot}
use Rattle.ob_site_rules.specs.Writes.{events_ever, records_from, with_record, recorded, board_after, stored_in, stored_logs, stored, is_over, overfills}
use Rattle.ob_plain_state.specs.States.{AreCounted}
use Rattle.ob_site_state.specs.Changes.{HasEvents}
use Rattle.ob_site_state.proofs.Storing.{stored_one}
use Rattle.ob_site_actions.specs.Limits.{grows, growing, is_counted_out, any_counted_out}

-- where none passes a test, the one of a place doesn't
pub not_any : {A : Type 0} (f : A → Bool) (xs : List A) (i : ℕ) (x : A) → list_any f xs ≡ false → slice_get xs i ≡ Some x → f x ≡ false
not_any f [] i x e there = absurd cc
not_any f (y ∷ xs) zero x e there = let same : y ≡ x = cc in ap f (sym same) ∙ (neither (f y) (list_any f xs) e).0
not_any f (y ∷ xs) (suc i) x e there = not_any f xs i x (neither (f y) (list_any f xs) e).1 there

-- what logs count for with one more record each, where the history records the node
one_recorded : (b : Bool) (r : Record) (l : Log) → stored_in (cond b (with_record r l) l).capacity (length (cond b (with_record r l) l).kept) ≡ stored_in l.capacity (length l.kept) + cond (b && is_none l.capacity) 1 0
one_recorded true r l = stored_one r l l.capacity refl
one_recorded false r l = omega arith

stored_recorded : (plan : Plan) (now : ℕ) (p : Path) (k : Kind) (slot : Slot) (ls : List (Path × Log)) → stored_logs (recorded plan now p k slot ls) ≡ stored_logs ls + growing plan p ls
stored_recorded plan now p k slot [] = refl
stored_recorded plan now p k slot (l ∷ ls) =
    let r : Record = record { time = moment_instant now; kind = k; slot = slot } in
    let b : Bool = records_from plan p l.0 in
    let one : stored_in (cond b (with_record r l.1) l.1).capacity (length (cond b (with_record r l.1) l.1).kept) ≡ stored_in l.1.capacity (length l.1.kept) + cond {A = ℕ} (grows plan p l) 1 0 = one_recorded b r l.1 in
    let rest : stored_logs (recorded plan now p k slot ls) ≡ stored_logs ls + growing plan p ls = stored_recorded plan now p k slot ls in
    ap₂ (λ (m n : ℕ). m + n) one rest ∙ omega arith

next_counted : (n : ℕ) → nat_lt 9_223_372_036_854_775_807 (n + 1) ≡ nat_le 9_223_372_036_854_775_807 n
next_counted n = grind (arith, nat_tests)

within_counted : (n : ℕ) → n < 2 ^ 63 → nat_lt 9_223_372_036_854_775_807 n ≡ false
within_counted n h = grind (arith, nat_tests)

one_counted : (b : Bool) (r : Record) (l : Log) → events_ever l < 2 ^ 63 → nat_lt 9_223_372_036_854_775_807 (events_ever (cond b (with_record r l) l)) ≡ (b && nat_le 9_223_372_036_854_775_807 (events_ever l))
one_counted true r l h =
    let e : events_ever (with_record r l) ≡ events_ever l + 1 = omega (arith, length-append l.kept (r ∷ [])) in
    ap (nat_lt 9_223_372_036_854_775_807) e ∙ next_counted (events_ever l)
one_counted false r l h = within_counted (events_ever l) h

-- the events of a history can't be counted where it records the node and has had as many as can be
uncounted_recorded : (plan : Plan) (now : ℕ) (p : Path) (k : Kind) (slot : Slot) (ls : List (Path × Log)) → AreCounted ls
    → list_any (λ l. nat_lt 9_223_372_036_854_775_807 (events_ever l.1)) (recorded plan now p k slot ls) ≡ any_counted_out plan p ls
uncounted_recorded plan now p k slot [] counted = refl
uncounted_recorded plan now p k slot (l ∷ ls) counted =
    ap₂ (λ a b. a || b) (one_counted (records_from plan p l.0) (record { time = moment_instant now; kind = k; slot = slot }) l.1 counted.0) (uncounted_recorded plan now p k slot ls counted.1)

uncounted_none : (ls : List (Path × Log)) → AreCounted ls → list_any (λ l. nat_lt 9_223_372_036_854_775_807 (events_ever l.1)) ls ≡ false
uncounted_none [] counted = refl
uncounted_none (l ∷ ls) counted =
    ap (λ (b : Bool). b || list_any (λ (m : Path × Log). nat_lt 9_223_372_036_854_775_807 (events_ever m.1)) ls) (within_counted (events_ever l.1) counted.0) ∙ uncounted_none ls counted.1

-- a sum that stands still at its type's end is as much too much
capped : (s m : ℕ) → nat_lt 1_000_000 (s + min m (2 ^ 64 - 1)) ≡ nat_lt 1_000_000 (s + m)
capped s m = go (nat_lt 1_000_000 m) refl
  where
    go : (b : Bool) → nat_lt 1_000_000 m ≡ b → nat_lt 1_000_000 (s + min m (2 ^ 64 - 1)) ≡ nat_lt 1_000_000 (s + m)
    go true is =
        let more : 1_000_000 < m = ltb-true 1_000_000 m is in
        lt-ltb 1_000_000 (s + min m (2 ^ 64 - 1)) (omega arith) ∙ sym (lt-ltb 1_000_000 (s + m) (omega arith))
    go false is =
        let few : m ≤ 1_000_000 = ltb-false 1_000_000 m is in
        let same : min m (2 ^ 64 - 1) ≡ m = omega arith in
        ap (λ (n : ℕ). nat_lt 1_000_000 (s + n)) same

-- whether a value is too much, by its records and its event
pub over_is : (plan : Plan) (s : State) (now : ℕ) (p : Path) (k : Kind) (slot : Slot) (is : Bool) (more : ℕ) (full out : Bool) → AreCounted s.logs → HasEvents is s (board_after plan s now p slot)
    → more ≡ min (growing plan p s.logs + cond {A = ℕ} is 1 0) (2 ^ 64 - 1) → full ≡ nat_lt 1_000_000 (stored s.logs (board plan s) + more) → out ≡ any_counted_out plan p s.logs
    → (full || out) ≡ is_over (recorded plan now p k slot s.logs) (board_after plan s now p slot)
over_is plan s now p k slot is more full out counted event sum room ends =
    let added : ℕ = growing plan p s.logs + cond {A = ℕ} is 1 0 in
    let logs : stored_logs (recorded plan now p k slot s.logs) ≡ stored_logs s.logs + growing plan p s.logs = stored_recorded plan now p k slot s.logs in
    let events : length (board_after plan s now p slot).events ≡ length s.events + cond {A = ℕ} is 1 0 = event in
    let same : (stored_logs s.logs + length s.events) + (growing plan p s.logs + cond {A = ℕ} is 1 0) ≡ stored_logs (recorded plan now p k slot s.logs) + length (board_after plan s now p slot).events = omega arith in
    ap₂ (λ a b. a || b)
    (room ∙ ap (λ (n : ℕ). nat_lt 1_000_000 (stored s.logs (board plan s) + n)) sum ∙ capped (stored s.logs (board plan s)) added ∙ ap (nat_lt 1_000_000) same) (ends ∙ sym (uncounted_recorded plan now p k slot s.logs counted))

-- and an event alone
pub event_over : (plan : Plan) (s : State) (b : Board) (is : Bool) (more : ℕ) (full : Bool) → AreCounted s.logs → HasEvents is s b → more ≡ cond {A = ℕ} is 1 0
    → full ≡ nat_lt 1_000_000 (stored s.logs (board plan s) + more) → full ≡ is_over s.logs b
event_over plan s b is more full counted event sum room =
    let events : length b.events ≡ length s.events + cond {A = ℕ} is 1 0 = event in
    let same : (stored_logs s.logs + length s.events) + more ≡ stored_logs s.logs + length b.events = omega arith in
    room ∙ ap (nat_lt 1_000_000) same ∙ sym (ap (λ (o : Bool). nat_lt 1_000_000 (stored s.logs b) || o) (uncounted_none s.logs counted) ∙ or_false (nat_lt 1_000_000 (stored s.logs b)))

other_so : (b c : Bool) → b ≡ false → c ≡ (not b && c)
other_so b c e = sym (ap (λ (x : Bool). not x && c) e)

-- whether a value that changes is too much
pub other_overfills : (plan : Plan) (s : State) (now : ℕ) (p : Path) (h : Head) (slot : Slot) → same_slot slot h.slot ≡ false
    → is_over (recorded plan now p h.kind slot s.logs) (board_after plan s now p slot) ≡ overfills plan s now p h slot
other_overfills plan s now p h slot same = other_so (same_slot slot h.slot) (is_over (recorded plan now p h.kind slot s.logs) (board_after plan s now p slot)) same

-- where a value isn't too much, its records can be counted
pub room_counts : (plan : Plan) (s : State) (now : ℕ) (p : Path) (h : Head) (slot : Slot) → AreCounted s.logs → same_slot slot h.slot ≡ false → overfills plan s now p h slot ≡ false
    → any_counted_out plan p s.logs ≡ false
room_counts plan s now p h slot counted same room =
    let over = other_overfills plan s now p h slot same ∙ room in
    sym (uncounted_recorded plan now p h.kind slot s.logs counted) ∙ (neither (nat_lt 1_000_000 (stored (recorded plan now p h.kind slot s.logs) (board_after plan s now p slot))) (list_any (λ (l : Path × Log). nat_lt 9_223_372_036_854_775_807 (events_ever l.1)) (recorded plan now p h.kind slot s.logs)) over).1

below_most : (n : ℕ) → nat_le 9_223_372_036_854_775_807 n ≡ false → n + 1 < 2 ^ 63
below_most n e = grind (arith, nat_tests)

-- so each history of the node can count one more
pub counts_more : (plan : Plan) (p : Path) (ls : List (Path × Log)) (place : ℕ) (l : Path × Log) → any_counted_out plan p ls ≡ false → slice_get ls place ≡ Some l → records_from plan p l.0 ≡ true
    → events_ever l.1 + 1 < 2 ^ 63
counts_more plan p ls place l none_out there records =
    below_most (events_ever l.1) (sym (ap (λ (b : Bool). b && nat_le 9_223_372_036_854_775_807 (events_ever l.1)) records) ∙ not_any (is_counted_out plan p) ls place l none_out there)

pub full_over : (full out over : Bool) → full ≡ true → (full || out) ≡ over → full ≡ over
full_over full out over is e = is ∙ sym (ap (λ (b : Bool). b || out) is) ∙ e

pub out_over : (full out over : Bool) → full ≡ false → (full || out) ≡ over → out ≡ over
out_over full out over is e = sym (ap (λ (b : Bool). b || out) is) ∙ e
