-- How much the logs of histories count for of what is stored, as a running sum; and how much more one value stores.
use Rattle.std.specs.Prelude.{◌≡◌, ℕ, ◌+◌, ◌-◌, ◌^◌, ◌&&◌, min, cond, is_none, List, [], ◌∷◌, map, Option, None, slice_index_or, String, unwrap_or}
use Rattle.std.specs.BTreeMap.{BTreeMap, get_by_text}
use Rattle.ob_site_rules.specs.Build.{Path}
use Rattle.ob_site_rules.specs.State.{Log}
use Rattle.ob_site_rules.specs.Writes.{stored_logs}
use Rattle.ob_site_state.specs.Roles.{is_of}
use Rattle.ob_site_state.specs.declared.tally.Tally.{Tally}

-- how many records the history of each place keeps, if not all
abbrev pub capacities_of : List (Path × Log) → List (Option ℕ)
capacities_of ls = map (λ l. l.1.capacity) ls

-- how much logs count for, or 2^64 - 1 where that is more
abbrev pub counted : List (Path × Log) → ℕ
counted ls = min (stored_logs ls) (2 ^ 64 - 1)

-- a tally is that of these logs, and of those before the step
pub record IsTallied (t : Tally) (now before : List (Path × Log)) : Type 0 where
  pub capacities : capacities_of now ≡ t.capacities.items
  pub total : t.total ≡ counted now
  pub total_before : t.total_before ≡ counted before

-- one more record is counted where the log of a place has no capacity
abbrev pub with_one : ℕ → Tally → Tally
with_one place t = record t { total = cond (is_none (slice_index_or t.capacities.items place None)) (min (t.total + 1) (2 ^ 64 - 1)) t.total }

-- how many of these histories have this source and, by their capacities, keep all their records
abbrev pub growing_in : Path → List (Path × Option Path) → List (Option ℕ) → ℕ
growing_in p [] cs = 0
growing_in p (h ∷ hs) [] = 0
growing_in p (h ∷ hs) (c ∷ cs) = cond (is_of p h && is_none c) 1 0 + growing_in p hs cs

-- what is counted for a path
abbrev pub count_at : {X : Type 0} → BTreeMap (String X) ℕ → Path → ℕ
count_at counts p = unwrap_or (get_by_text counts p) 0
