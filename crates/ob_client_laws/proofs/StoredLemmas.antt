-- No request brings more than may be stored.
use Rattle.std.proofs.Common.{arith, ◌≡◌, ℕ, ◌+◌, ◌≤◌, false, List, [], ◌∷◌, length, Option, Some, None, refl, sym, ap, ap₂, subst}
use Rattle.std.proofs.lemmas.Bool.Decides.{nat_tests}
use Rattle.std.specs.Prelude.{nat_lt}
use Rattle.std.specs.List.{list_any}
use Rattle.ob_history.specs.declared.records.Record.{Record}
use Rattle.ob_site_rules.specs.Build.{Path}
use Rattle.ob_site_rules.specs.declared.plan.Plan.{Plan}
use Rattle.ob_site_rules.specs.State.{Log, State, board, rolled, rolled_logs, roll}
use Rattle.ob_site_rules.specs.Writes.{stored, stored_in, stored_logs, events_ever, is_over}
use Rattle.ob_step_laws.specs.Ordered.{OpensOrdered}
use Rattle.ob_client_laws.specs.Storing.{StoresFew, StoredStays, OpenedStoresFew}
use Rattle.ob_values.proofs.Bools.{neither}
use Rattle.ob_site_laws.proofs.Endless.{log}
use Rattle.ob_client_laws.proofs.LimitLemmas.{stays}

few : (n : ℕ) → nat_lt 1_000_000 n ≡ false → n ≤ 1_000_000
few n e = grind (arith, nat_tests)

within : (plan : Plan) (s : State) → is_over s.logs (board plan s) ≡ false → StoresFew plan s
within plan s e =
    few (stored s.logs (board plan s)) (neither (nat_lt 1_000_000 (stored s.logs (board plan s))) (list_any (λ l. nat_lt 9_223_372_036_854_775_807 (events_ever l.1)) s.logs) e).0

-- ---- a log counts for as much once it has rolled

log_rolls : (c : Option ℕ) (g : ℕ) (k : List Record) → stored_in (rolled (log c g k)).capacity (length (rolled (log c g k)).kept) ≡ stored_in c (length k)
log_rolls None g k = refl
log_rolls (Some c) g k = refl

logs_roll : (ls : List (Path × Log)) → stored_logs (rolled_logs ls) ≡ stored_logs ls
logs_roll [] = refl
logs_roll (l ∷ ls) = ap₂ (λ a b. a + b) (log_rolls l.1.capacity l.1.gone l.1.kept) (logs_roll ls)

roll_stays : (plan : Plan) (s : State) → StoresFew plan s → StoresFew plan (roll s)
roll_stays plan s h = subst (λ n. n ≤ 1_000_000) (ap (λ n. n + length s.events) (sym (logs_roll s.logs))) h

-- ---- a history

pub stored_stays : StoredStays
stored_stays start h es = stays StoresFew within roll_stays start h es

pub opened_stores_few : OpensOrdered → OpenedStoresFew
opened_stores_few ordered root boot st opened es = stored_stays st (ordered root boot st opened).stored es
