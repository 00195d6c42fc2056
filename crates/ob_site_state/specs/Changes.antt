-- What a step changed, and the state with it taken back.
use Rattle.std.specs.Prelude.{◌≡◌, ℕ, ◌+◌, ◌<◌, Bool, true, false, cond, List, [], ◌∷◌, length, take, slice_get, is_some, Some, IsTrue}
use Rattle.circular_buffer.specs.Buffer.{last_item}
use Rattle.ob_object.specs.declared.head.Head.{Head}
use Rattle.ob_object.specs.Fits.{fits_slot}
use Rattle.ob_object.specs.Object.{Object, parts}
use Rattle.ob_tree.specs.Paths.{place_of}
use Rattle.ob_ground.specs.Grounds.{WordsStand}
use Rattle.ob_tree.specs.Laid.{head_at, changed, paths}
use Rattle.ob_alarms.specs.Lists.{changed_at}
use Rattle.ob_alarms.specs.States.{status_of}
use Rattle.ob_alarms.specs.declared.alarm.Alarm.{Alarm}
use Rattle.ob_alarms.specs.declared.alarm.Event.{Event}
use Rattle.ob_alarms.specs.Changes.{State as Board, alarm_of, before}
use Rattle.ob_alarms.specs.declared.board.Turned.{Turned}
use Rattle.ob_alarms.specs.declared.board.Turned.TheVariants as turned
use Rattle.ob_alarms.specs.declared.board.AckResult.{AckResult}
use Rattle.ob_alarms.specs.declared.board.AckResult.TheVariants as answer
use Rattle.ob_site_rules.specs.Build.{Path}
use Rattle.ob_site_rules.specs.declared.plan.Plan.{Plan}
use Rattle.ob_site_rules.specs.State.{Log, State, numbered_from, rolled}
use Rattle.ob_site_state.specs.declared.change.Change.{Change}
use Rattle.ob_site_state.specs.declared.change.Change.TheVariants as change

-- the alarms as they were before the last event
abbrev pub alarms_before : List Event → List Alarm → List Alarm
alarms_before [] alarms = alarms
alarms_before (e ∷ []) alarms = before e alarms
alarms_before (e ∷ f ∷ es) alarms = alarms_before (f ∷ es) alarms

-- all events but the last
abbrev pub events_before : List Event → List Event
events_before [] = []
events_before (e ∷ []) = []
events_before (e ∷ f ∷ es) = e ∷ events_before (f ∷ es)

-- a log with no more than the first so many of its records
abbrev pub cut : ℕ → Log → Log
cut len l = record l { kept = take len l.kept }

-- the same logs, but for the one of a place
abbrev pub with_log : (Log → Log) → ℕ → List (Path × Log) → List (Path × Log)
with_log f place ls = changed_at place (λ l. (l.0, f l.1)) ls

-- a value that turned an alarm is an event
abbrev pub is_turn : Turned → Bool
is_turn turned.Nothing = false
is_turn _ = true

-- an acknowledgement that is noted is an event
abbrev pub is_done : AckResult → Bool
is_done answer.Done = true
is_done _ = false

-- the alarms without their last event
abbrev pub without_event : State → State
without_event s = record s { alarms = alarms_before s.events s.alarms; events = events_before s.events }

-- one change taken back
abbrev pub undone : Change → State → State
undone (change.Slot node slot) s = record s { tree = changed (λ h. record h { slot = slot }) node.number s.tree }
undone (change.Records place len) s = record s { logs = with_log (cut len) place s.logs }
undone (change.Event rule status) s = without_event s
undone (change.Contracts told) s = record s { library = told.library }

-- a change that notes a library
abbrev pub is_library : Change → Bool
is_library (change.Slot node slot) = false
is_library (change.Records place len) = false
is_library (change.Event rule status) = false
is_library (change.Contracts told) = true

-- changes taken back, the last one first
abbrev pub rewound : List Change → State → State
rewound [] s = s
rewound (c ∷ cs) s = undone c (rewound cs s)

-- An event came, which can be taken back; or else nothing changed.
abbrev pub AddsEvent : Bool → State → State → Type 0
AddsEvent false s t = t ≡ s
AddsEvent true s t = (0 < length t.events) × (without_event t ≡ s)

-- alarms have one event more than a state, or as many
abbrev pub HasEvents : Bool → State → Board → Type 0
HasEvents is s b = length b.events ≡ length s.events + cond is 1 0

-- there is what a change changed: an object that takes the slot, a history, an event; and the words that a library tells are those of
-- the lists that are there
abbrev pub CanUndo : Change → State → Type 0
CanUndo (change.Slot node slot) s =
    (node.number < parts s.tree) × ((h : Head) → head_at node.number s.tree ≡ Some h → IsTrue (fits_slot h.kind slot))
CanUndo (change.Records place len) s = place < length s.logs
CanUndo (change.Event rule status) s = 0 < length s.events
CanUndo (change.Contracts told) s = WordsStand s.tree told

-- and so for each of them, once those behind it are taken back
abbrev pub CanRewind : List Change → State → Type 0
CanRewind [] s = Unit {0}
CanRewind (c ∷ cs) s = CanUndo c (rewound cs s) × CanRewind cs s

-- the object of a number is a node
abbrev pub IsNode : ℕ → Object → Type 0
IsNode n o = (p : Path) × (place_of p (paths o) ≡ Some n)

-- The newest event is of an alarm that there is, of this rule of the plan.
pub record IsNewest (plan : Plan) (rule : ℕ) (s : State) : Type 0 where
  pub event : Event
  pub alarm : Alarm
  pub last : last_item s.events ≡ Some event
  pub there : alarm_of event.number s.alarms ≡ Some alarm
  pub of_rule : alarm.rule ≡ rule
  pub known : is_some (slice_get plan.rules rule) ≡ true

-- What a note tells of the step that it is of; b is the state before that change, and s the one after it. A slot is that of a node;
-- a history has one record more than the note says; and an event, the newest, is of an alarm of a rule whose source had that
-- status before, while the sources of all other rules keep theirs.
abbrev pub IsTold : Plan → Change → State → State → Type 0
IsTold plan (change.Slot node slot) b s = IsNode node.number s.tree
IsTold plan (change.Records place len) b s = (l : Path × Log) → slice_get s.logs place ≡ Some l → length l.1.kept ≡ len + 1
IsTold plan (change.Event rule status) b s =
    (status ≡ status_of (numbered_from 0 plan.rules) b.alarms rule)
    × ((j : ℕ) → (j ≡ rule → ⊥) → status_of (numbered_from 0 plan.rules) b.alarms j ≡ status_of (numbered_from 0 plan.rules) s.alarms j)
    × IsNewest plan rule s
IsTold plan (change.Contracts told) b s = Unit {0}

-- and so each of them, of the state once those behind it are taken back
abbrev pub ChangesTell : Plan → List Change → State → Type 0
ChangesTell plan [] s = Unit {0}
ChangesTell plan (c ∷ cs) s = IsTold plan c (undone c (rewound cs s)) (rewound cs s) × ChangesTell plan cs s

-- the logs of which those that a change gave a record have dropped their oldest ones
abbrev pub settled_by : Change → List (Path × Log) → List (Path × Log)
settled_by (change.Records place len) ls = with_log rolled place ls
settled_by _ ls = ls

abbrev pub settled_all : List Change → List (Path × Log) → List (Path × Log)
settled_all [] ls = ls
settled_all (c ∷ cs) ls = settled_all cs (settled_by c ls)

-- a change is of a history that is there, where there are so many
abbrev pub IsPlaced : ℕ → Change → Type 0
IsPlaced n (change.Records place len) = place < n
IsPlaced n _ = Unit {0}
