-- What an operation leaves of its watch, by marks. Watch.add, of which more is left, is told of apart.
use Rattle.std.specs.Prelude.{◌≡◌, ℕ, Bool, true, false, Option, Some, None, option_and_then, Result, Ok, Err}
use Rattle.ob_watching.specs.Operations.{Add, Renew, Remove, PollChanges, PollRefresh, Delete}
use Rattle.ob_watching.specs.Tables.{lookup, replace}
use Rattle.ob_site_rules.specs.declared.fault.Fault.{Fault}
use Rattle.ob_site_rules.specs.Watched.{WatchOperation, lease_asked}
use Rattle.ob_site_state.specs.Kept.{Kept}
use Rattle.ob_watch.specs.Tables.{Leased, Table, at_number, holding, leased_for, touched_at, without}
use Rattle.ob_site_state.specs.Feeds.{feed_logs}
use Rattle.ob_watch.specs.Reported.{all_reported}

abbrev pub is_add : WatchOperation → Bool
is_add (Add asked) = true
is_add _ = false

-- another lease, if one that can be asked for was
abbrev pub leased_if : Result ℕ Fault → Leased → Leased
leased_if (Ok lease) w = leased_for lease w
leased_if (Err fault) w = w

-- the watches after another lease was asked for the one of a number
abbrev pub Renews : ℕ → Table → Table → Result ℕ Fault → Type 0
Renews n old new (Ok lease) = new ≡ holding (at_number n (leased_for lease) old.watches) old
Renews n old new (Err fault) = new ≡ old

abbrev pub marks_after : Kept → ℕ → WatchOperation → Leased → Option Leased
marks_after k now (Renew input) w = Some (leased_if (lease_asked k.now input) (touched_at now w))
marks_after k now (Remove texts) w = Some (without texts (touched_at now w))
marks_after k now PollChanges w = Some (all_reported k.steps (feed_logs k.now) (touched_at now w))
marks_after k now PollRefresh w = Some (all_reported k.steps (feed_logs k.now) (touched_at now w))
marks_after k now Delete w = None
marks_after k now _ w = Some (touched_at now w)

-- the watches after an operation on the one of a number
abbrev pub leaving : Kept → ℕ → ℕ → WatchOperation → Table → Table
leaving k now n op table = holding (replace n (option_and_then (marks_after k now op) (lookup n table.watches)) table.watches) table
