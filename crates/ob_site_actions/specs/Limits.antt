-- What one more value of a node stores.
use Rattle.std.specs.Prelude.{ℕ, ◌+◌, ◌&&◌, Bool, cond, is_none, nat_le, List, [], ◌∷◌}
use Rattle.std.specs.List.{list_any}
use Rattle.ob_site_rules.specs.Build.{Path}
use Rattle.ob_site_rules.specs.declared.plan.Plan.{Plan}
use Rattle.ob_site_rules.specs.State.{Log}
use Rattle.ob_site_rules.specs.Writes.{events_ever, records_from}

-- a history of the node that keeps all its records
abbrev pub grows : Plan → Path → Path × Log → Bool
grows plan source l = records_from plan source l.0 && is_none l.1.capacity

-- how many of these there are
abbrev pub growing : Plan → Path → List (Path × Log) → ℕ
growing plan source [] = 0
growing plan source (l ∷ ls) = cond (grows plan source l) 1 0 + growing plan source ls

-- a history of the node that has had as many events as can be counted
abbrev pub is_counted_out : Plan → Path → Path × Log → Bool
is_counted_out plan source l = records_from plan source l.0 && nat_le 9_223_372_036_854_775_807 (events_ever l.1)

abbrev pub any_counted_out : Plan → Path → List (Path × Log) → Bool
any_counted_out plan source ls = list_any (is_counted_out plan source) ls
