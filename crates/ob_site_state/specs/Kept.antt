-- What a `State` stands for.
use Rattle.std.specs.Prelude.{◌≡◌, ℕ, ◌≤◌, ◌≤ℤ◌, List, [], ◌∷◌, map, None}
use Rattle.ob_times.specs.Times.{instant, moment_instant}
use Rattle.ob_contracts.specs.Inherit.{Contracts}
use Rattle.ob_object.specs.Object.{Object}
use Rattle.ob_object.specs.WellFormed.{IsWellFormed}
use Rattle.ob_history.specs.declared.records.Record.{Record}
use Rattle.ob_history.specs.Logs.{History}
use Rattle.ob_alarms.specs.Changes.{State as Board}
use Rattle.ob_tree.specs.Paths.{first_twice}
use Rattle.ob_tree.specs.Laid.{paths}
use Rattle.ob_site_rules.specs.Build.{Path}
use Rattle.ob_site_rules.specs.declared.plan.Plan.{Plan}
use Rattle.ob_site_rules.specs.State.{Log, State, numbered_from, roll}
use Rattle.ob_site_rules.specs.Shown.{dressed}
use Rattle.ob_step_laws.specs.Laws.{Apart}
use Rattle.ob_step_laws.specs.Consistent.{IsConsistent}
use Rattle.ob_shown_laws.specs.Alike.{row}
use Rattle.ob_shown_laws.specs.Changed.{PathsDiffer}
use Rattle.ob_site_state.specs.declared.change.Change.{Change}
use Rattle.ob_site_state.specs.Changes.{rewound, CanRewind, ChangesTell}
use Rattle.ob_site_state.specs.Standing.{RolesStand}

-- a log, in which no room is counted
abbrev pub log_of : History → Log
log_of h = record { capacity = h.capacity; gone = h.gone; kept = h.kept }

-- a log under its path
abbrev pub entry_of : Path × History → Path × Log
entry_of l = (l.0, log_of l.1)

-- the state that the parts make
abbrev pub state_of : Contracts → Object → List (Path × History) → Board → State
state_of library tree logs board = record {
  library = library;
  tree = tree;
  logs = map entry_of logs;
  alarms = board.alarms;
  events = board.events;
}

-- What is fixed; the time, and the state; the time before the step, and the state before it; and of each own object, in
-- document order, the number of the step that last stamped it, and how many steps there were.
pub record Kept : Type 0 where
  pub plan : Plan
  pub time : ℕ
  pub now : State
  pub since : ℕ
  pub before : State
  pub stamps : List ℕ
  pub steps : ℕ

-- no record is after a moment
abbrev pub AreBy : ℕ → List Record → Type 0
AreBy time [] = Unit {0}
AreBy time (r ∷ rs) = (instant r.time ≤ℤ instant (moment_instant time)) × AreBy time rs

-- nor a record of one of these logs
abbrev pub LogsAreBy : ℕ → List (Path × Log) → Type 0
LogsAreBy time [] = Unit {0}
LogsAreBy time (l ∷ ls) = AreBy time l.1.kept × LogsAreBy time ls

-- the paths of histories
abbrev pub keys : List (Path × Log) → List Path
keys ls = map (λ l. l.0) ls

-- What each state of a site is: it owes its plan nothing, no two nodes of the root have one path, those that roles derive
-- among them, and what roles name are own nodes.
pub record IsSoundFor (plan : Plan) (s : State) : Type 0 where
  pub consistent : IsConsistent plan s
  pub paths_differ : PathsDiffer (row (dressed plan s))
  pub roles : RolesStand plan s

-- What the parts owe one another: the alarms are those of the plan's root and rules; the logs are those of the
-- plan's histories, in their order, no two of which have one path; the own objects are well formed, and no two
-- nodes have one path; no record is after the time; the state is sound for its plan; each change can be taken back, and tells what it
-- should; and before the step no record was after the time before it, each log was within its capacity, and the state was sound.
pub record IsConsistentState (plan : Plan) (time : ℕ) (s : State) (board : Board) (since : ℕ) (found : List Change) : Type 0 where
  pub root : board.root ≡ plan.root
  pub rules : board.rules ≡ numbered_from 0 plan.rules
  pub histories : keys s.logs ≡ map (λ h. h.0) plan.histories
  pub apart : Apart (map (λ h. h.0) plan.histories)
  pub well_formed : IsWellFormed s.tree
  pub differ : first_twice [] (paths s.tree) ≡ None
  pub in_time : LogsAreBy time s.logs
  pub sound : IsSoundFor plan s
  pub later : since ≤ time
  pub can_rewind : CanRewind found s
  pub told : ChangesTell plan found s
  pub in_time_before : LogsAreBy since (rewound found s).logs
  pub rolled_before : roll (rewound found s) ≡ rewound found s
  pub sound_before : IsSoundFor plan (rewound found s)
