-- No request brings more events than are counted.
use Rattle.std.proofs.Common.{arith, ◌≡◌, ℕ, ◌+◌, ◌-◌, ◌≤◌, ◌<◌, ◌^◌, false, List, [], ◌∷◌, length, Option, Some, None, ap}
use Rattle.std.proofs.lemmas.Bool.Decides.{nat_tests}
use Rattle.std.proofs.lemmas.List.{length-drop}
use Rattle.std.specs.Prelude.{nat_lt}
use Rattle.std.specs.List.{AllByRecursion, list_any}
use Rattle.ob_history.specs.declared.records.Record.{Record}
use Rattle.ob_alarms.specs.Changes.{State as Board}
use Rattle.ob_site_rules.specs.State.{State, board, roll, rolled, rolled_logs}
use Rattle.ob_site_rules.specs.declared.plan.Plan.{Plan}
use Rattle.ob_site_rules.specs.Writes.{stored, stored_logs, events_ever, is_over}
use Rattle.ob_step_laws.specs.Opens as opens
use Rattle.ob_plain_state.specs.States as plain
use Rattle.ob_client.specs.Mirrors.{most_missed}
use Rattle.ob_client_laws.specs.Counting.{AreCounted, CountsStay, OpensCounted}
use Rattle.ob_values.proofs.Bools.{neither}
use Rattle.ob_site_laws.proofs.Endless.{log}
use Rattle.ob_site_laws.proofs.Growth.{Logs}
use Rattle.ob_client_laws.proofs.LimitLemmas.{stays}

abbrev AreFew : Logs → Type 0
AreFew ls = AllByRecursion (λ l. events_ever l.1 ≤ most_missed) ls

-- ---- what isn't over

few : (n : ℕ) → nat_lt 9_223_372_036_854_775_807 n ≡ false → n ≤ 9_223_372_036_854_775_807
few n e = grind (arith, nat_tests)

few_of : (k n : ℕ) → nat_lt 1_000_000 (k + n) ≡ false → n ≤ 9_223_372_036_854_775_807
few_of k n e = grind (arith, nat_tests)

all_few : (ls : Logs) → list_any (λ l. nat_lt 9_223_372_036_854_775_807 (events_ever l.1)) ls ≡ false → AreFew ls
all_few [] h = tt
all_few (l ∷ ls) h =
    let parts = neither (nat_lt 9_223_372_036_854_775_807 (events_ever l.1)) (list_any (λ l. nat_lt 9_223_372_036_854_775_807 (events_ever l.1)) ls) h in
    (few (events_ever l.1) parts.0, all_few ls parts.1)

within : (ls : Logs) (b : Board) → is_over ls b ≡ false → AreFew ls × (length b.events ≤ most_missed)
within ls b h =
    let parts = neither (nat_lt 1_000_000 (stored ls b)) (list_any (λ l. nat_lt 9_223_372_036_854_775_807 (events_ever l.1)) ls) h in
    (all_few ls parts.1, few_of (stored_logs ls) (length b.events) parts.0)

-- ---- what stands within the limits

counted : (plan : Plan) (s : State) → is_over s.logs (board plan s) ≡ false → AreCounted s
counted plan s e = (let both = within s.logs (board plan s) e in record { records = both.0; alarms = both.1 })

-- ---- rolling

log_rolls : (c : Option ℕ) (g : ℕ) (k : List Record) → events_ever (log c g k) ≤ most_missed → events_ever (rolled (log c g k)) ≤ most_missed
log_rolls None g k h = h
log_rolls (Some c) g k h = omega (arith, h, length-drop (length k - c) k)

logs_roll : (ls : Logs) → AreFew ls → AreFew (rolled_logs ls)
logs_roll [] h = tt
logs_roll (l ∷ ls) h = (log_rolls l.1.capacity l.1.gone l.1.kept h.0, logs_roll ls h.1)

roll_counted : (s : State) → AreCounted s → AreCounted (roll s)
roll_counted s h = record { records = logs_roll s.logs h.records; alarms = h.alarms }

-- ---- a history

pub counts_stay : CountsStay
counts_stay start h es = stays (λ plan s. AreCounted s) counted (λ plan s. roll_counted s) start h es

-- ---- what a document opens

below : (n : ℕ) → n < 2 ^ 63 → n ≤ 9_223_372_036_854_775_807
below n h = omega (arith, h)

all_below : (ls : Logs) → plain.AreCounted ls → AreFew ls
all_below [] h = tt
all_below (l ∷ ls) h = (below (events_ever l.1) h.0, all_below ls h.1)

none_few : (n : ℕ) → n ≡ 0 → n ≤ 9_223_372_036_854_775_807
none_few n e = omega (arith, e)

pub opens_counted : opens.OpensCounted → opens.OpensConsistent → OpensCounted
opens_counted counted consistent root boot st formed small opened =
    let records = counted root boot st small opened in
    record {
      records = all_below st.world.site.logs records;
      alarms = none_few (length st.world.site.events) (ap length (consistent root boot st formed records opened).events);
    }
