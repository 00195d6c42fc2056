-- The state of a site apart from its watches. What is fixed when it is opened is the `Plan` of src/plan.rt.
use Rattle.std.specs.Prelude.{ℕ, ◌+◌, Bool, List, [], ◌∷◌, map, Option, find, option_map, option_and_then}
use Rattle.std.specs.Str.{bytes_eq}
use Rattle.std.specs.List.{list_any}
use Rattle.ob_object.specs.Object.{Object}
use Rattle.ob_contracts.specs.Inherit.{Contracts}
use Rattle.ob_history.specs.declared.records.Record.{Record}
use Rattle.ob_history.specs.Logs.{History, settled as settled_history}
use Rattle.ob_alarms.specs.declared.rule.Rule.{Rule}
use Rattle.ob_alarms.specs.declared.alarm.Alarm.{Alarm}
use Rattle.ob_alarms.specs.declared.alarm.Event.{Event}
use Rattle.ob_alarms.specs.Changes.{State as Board}
use Rattle.ob_site_rules.specs.Build.{Path}
use Rattle.ob_site_rules.specs.declared.plan.Plan.{Plan}
use Rattle.ob_site_rules.specs.declared.plan.PointRule.{PointRule}

-- The records of a history: how many are kept at most, if not all; how many rolled off; and the kept ones, the oldest
-- first.
pub record Log : Type 0 where
  pub capacity : Option ℕ
  pub gone : ℕ
  pub kept : List Record

-- What changes: the library; the root with all its own objects, in which a node has its path as href; the log of each
-- history; the alarms in the order of their numbers, from 1; and the alarm events, the oldest first.
pub record State : Type 0 where
  pub library : Contracts
  pub tree : Object
  pub logs : List (Path × Log)
  pub alarms : List Alarm
  pub events : List Event

-- what stands first under a path
abbrev pub at : {A : Type 0} → Path → List (Path × A) → Option A
at path es = option_map (λ e. e.1) (find (λ e. bytes_eq e.0 path) es)

-- whether a path is one of these
abbrev pub is_among : Path → List Path → Bool
is_among path ps = list_any (λ p. bytes_eq p path) ps

-- the source of a history
abbrev pub source_of : Plan → Path → Option Path
source_of plan history = option_and_then (λ o. o) (at history plan.histories)

-- the rules, each with the place of the rule as the number of its source
abbrev pub numbered_from : ℕ → List PointRule → List Rule
numbered_from n [] = []
numbered_from n (r ∷ rs) =
    record { source = n; path = r.source; low = r.low; high = r.high; needs_ack = r.needs_ack } ∷ numbered_from (n + 1) rs

-- the alarms with their rules
abbrev pub board : Plan → State → Board
board plan s = record { root = plan.root; rules = numbered_from 0 plan.rules; alarms = s.alarms; events = s.events; spare = 0 }

-- a state with the alarms and alarm events of these
abbrev pub with_board : State → Board → State
with_board s b = record s { alarms = b.alarms; events = b.events }

-- a log as a history, in which no room is counted
abbrev pub history_of : Log → History
history_of l = record { capacity = l.capacity; gone = l.gone; kept = l.kept; spare = 0 }

-- A log with a capacity drops its oldest records until at most that many are kept.
abbrev pub rolled : Log → Log
rolled l =
    let h : History = settled_history l.capacity (history_of l) in
    record { capacity = l.capacity; gone = h.gone; kept = h.kept }

-- each log as it is behind the end of a step
abbrev pub rolled_logs : List (Path × Log) → List (Path × Log)
rolled_logs ls = map (λ l. (l.0, rolled l.1)) ls

-- what the end of each step does to the site: histories drop what is more than their capacity
abbrev pub roll : State → State
roll s = record s { logs = rolled_logs s.logs }
