-- What was before a step, as the first notes of it tell, and which own nodes show it otherwise at the end of the step.
use Rattle.std.specs.Prelude.{◌≡◌, ℕ, ◌-◌, ◌<◌, ◌≤◌, Bool, true, false, not, cond, min, IsTrue, List, [], ◌∷◌, ◌++◌, length, nat_eq, suc, option_and_then, option_to_list, slice_get, Option, Some, None, is_none}
use Rattle.ob_object.specs.declared.head.Head.{Head}
use Rattle.ob_object.specs.declared.head.Slot.{Slot}
use Rattle.ob_object.specs.declared.status.Status.{Status}
use Rattle.ob_object.specs.Fits.{fits_slot}
use Rattle.ob_object.specs.Object.{parts}
use Rattle.ob_contracts.specs.Inherit.{Contracts, or_else, only_if}
use Rattle.ob_tree.specs.Contexts.{Context}
use Rattle.ob_ground.specs.Grounds.{Taught, WordsStand}
use Rattle.ob_alarms.specs.States.{status_of}
use Rattle.ob_alarms.specs.declared.alarm.Event.{Event}
use Rattle.ob_alarms.specs.declared.alarm.What.{What}
use Rattle.ob_alarms.specs.declared.alarm.What.TheVariants as what
use Rattle.ob_tree.specs.Laid.{head_at, paths}
use Rattle.ob_tree.specs.Paths.{place_of}
use Rattle.ob_tree.specs.Shown.{standing_at}
use Rattle.ob_site_rules.specs.Build.{Path}
use Rattle.ob_site_rules.specs.declared.plan.Plan.{Plan}
use Rattle.ob_site_rules.specs.State.{Log, State, numbered_from, rolled, roll}
use Rattle.ob_site_rules.specs.Sameness.{same_status}
use Rattle.ob_site_rules.specs.Shown.{rule_of}
use Rattle.ob_shown_laws.specs.Alike.{DifferInValues}
use Rattle.ob_shown_laws.specs.Changed.{head_in, same_values, same_log}
use Rattle.ob_step_laws.specs.Defaults.{with_library}
use Rattle.ob_site_state.specs.declared.change.Change.{Change}
use Rattle.ob_site_state.specs.declared.change.Change.TheVariants as change
use Rattle.ob_site_state.specs.Changes.{cut, rewound, CanRewind, ChangesTell}
use Rattle.ob_site_state.specs.Kept.{Kept}

-- what the first of the notes gives that has it
abbrev pub first_noted : {A : Type 0} → (Change → Option A) → List Change → Option A
first_noted part [] = None
first_noted part (c ∷ cs) = or_else (part c) (first_noted part cs)

-- the slot that an object had
abbrev pub slot_noted : ℕ → Change → Option Slot
slot_noted n (change.Slot node slot) = only_if (nat_eq node.number n) (Some slot)
slot_noted n _ = None

-- how many records the history of a place kept
abbrev pub len_noted : ℕ → Change → Option ℕ
len_noted n (change.Records place len) = only_if (nat_eq place n) (Some len)
len_noted n _ = None

-- the status of the alarms of a rule
abbrev pub status_noted : ℕ → Change → Option Status
status_noted n (change.Event rule status) = only_if (nat_eq rule n) (Some status)
status_noted n _ = None

-- the library
abbrev pub library_noted : Change → Option Contracts
library_noted (change.Contracts told) = Some told.library
library_noted _ = None

-- the library before a step, where it has replaced this one, and where it has replaced none; s is the state that it has made
abbrev pub replaced_or : Option Taught → State → Contracts
replaced_or None s = s.library
replaced_or (Some told) s = told.library

-- the words that the library before tells are those of the objects that are there
abbrev pub TellsOf : Option Taught → State → Type 0
TellsOf None s = Unit {0}
TellsOf (Some told) s = WordsStand s.tree told

-- no earlier note is of the same object, history or rule: so the note tells what was before the step
abbrev pub is_first : List Change → Change → Bool
is_first earlier (change.Slot node slot) = is_none (first_noted (slot_noted node.number) earlier)
is_first earlier (change.Records place len) = is_none (first_noted (len_noted place) earlier)
is_first earlier (change.Event rule status) = is_none (first_noted (status_noted rule) earlier)
is_first earlier (change.Contracts told) = false

-- an object, where it stands, shows another slot than it would with this one (oBIX 1.1, chapter 7)
abbrev pub other_slot_in : Option Context → Option Head → Slot → Bool
other_slot_in None h slot = false
other_slot_in (Some c) None slot = false
other_slot_in (Some c) (Some h) slot = not (same_values (head_in c (record h { slot = slot })) (head_in c h))

-- the node of which a note has the slot, if it shows another one with this library
abbrev pub other_slot : Contracts → State → ℕ → Slot → Option ℕ
other_slot library s n slot = only_if (other_slot_in (standing_at library n s.tree) (head_at n s.tree) slot) (Some n)

-- the node of a history that kept so many records, if it shows another count, start or end once it has rolled (oBIX 1.1,
-- section 14.1)
abbrev pub other_records : State → ℕ → ℕ → Option ℕ
other_records s place len =
    option_and_then
    (λ l. only_if (not (same_log (Some (cut len l.1)) (Some (rolled l.1)))) (place_of l.0 (paths s.tree)))
    (slice_get s.logs place)

-- a node has this rule
abbrev pub is_rule : ℕ → Option ℕ → Bool
is_rule rule None = false
is_rule rule (Some first) = nat_eq first rule

-- the node that has a rule; where two have one source, it has the first
abbrev pub node_with : Plan → State → ℕ → Option ℕ
node_with plan s rule =
    option_and_then
    (λ r. only_if (is_rule rule (rule_of plan r.source)) (place_of r.source (paths s.tree)))
    (slice_get plan.rules rule)

-- the node of a rule whose alarms had this status, if they have another one (oBIX 1.1, section 15.2)
abbrev pub other_status : Plan → State → ℕ → Status → Option ℕ
other_status plan s rule status =
    only_if (not (same_status status (status_of (numbered_from 0 plan.rules) s.alarms rule))) (node_with plan s rule)

-- the own node that shows itself otherwise than before the step, where that has this note as the first one of its kind
abbrev pub told_by : Contracts → Plan → State → Change → Option ℕ
told_by library plan s (change.Slot node slot) = other_slot library s node.number slot
told_by library plan s (change.Records place len) = other_records s place len
told_by library plan s (change.Event rule status) = other_status plan s rule status
told_by library plan s (change.Contracts replaced) = None

-- the numbers that notes tell, behind some earlier ones: each by the first note of its object, history or rule
abbrev pub all_told : Contracts → Plan → State → List Change → List Change → List ℕ
all_told library plan s earlier [] = []
all_told library plan s earlier (c ∷ cs) =
    option_to_list (only_if (is_first earlier c) (told_by library plan s c)) ++ all_told library plan s (earlier ++ c ∷ []) cs

-- the subject of alarms, if there are as many as before no more (oBIX 1.1, chapter 15)
abbrev pub subject_told : Plan → State → ℕ → Option ℕ
subject_told plan s before =
    only_if (not (nat_eq before (length s.alarms))) (option_and_then (λ p. place_of p (paths s.tree)) plan.subject)

-- how many alarms there were before an event, of so many
abbrev pub count_before_what : What → ℕ → ℕ → ℕ
count_before_what what.Raised number count = min count (number - 1)
count_before_what what.Acked number count = count
count_before_what what.Normal number count = count

-- and before some events
abbrev pub count_before : List Event → ℕ → ℕ
count_before [] count = count
count_before (e ∷ es) count = count_before_what e.what e.number (count_before es count)

-- a note of an alarm event
abbrev pub is_event : Change → Bool
is_event (change.Event rule status) = true
is_event _ = false

-- how many of the notes are of events
abbrev pub events_noted : List Change → ℕ
events_noted [] = 0
events_noted (c ∷ cs) = cond (is_event c) (suc (events_noted cs)) (events_noted cs)

-- the state at the end of a step, with the library of before
abbrev pub ended_in_values : Kept → State
ended_in_values k = with_library k.before.library (roll k.now)

-- A note can be compared with what is there: its object takes the slot, its history keeps as many records.
abbrev pub IsComparable : State → Change → Type 0
IsComparable s (change.Slot node slot) =
    (node.number < parts s.tree) × ((h : Head) → head_at node.number s.tree ≡ Some h → IsTrue (fits_slot h.kind slot))
IsComparable s (change.Records place len) =
    (place < length s.logs) × ((l : Path × Log) → slice_get s.logs place ≡ Some l → len ≤ length l.1.kept)
IsComparable s (change.Event rule status) = Unit {0}
IsComparable s (change.Contracts told) = Unit {0}

-- Whatever a step does, but for another library it changes values alone: the slots of nodes, records and alarms.
abbrev pub NotesAreValues : Type 0
NotesAreValues = (plan : Plan) (found : List Change) (s : State) → CanRewind found s → ChangesTell plan found s
    → DifferInValues (rewound found s) (with_library (rewound found s).library (roll s))
