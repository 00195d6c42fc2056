-- Writes, and why they are refused. Source: oBIX 1.1, chapter 10 (Networking: Write), section 4.2 (facets); the order of the
-- refusals and the limits are this profile's own.
use Rattle.std.specs.Prelude.{ℕ, ◌+◌, Bool, true, false, cond, not, ◌&&◌, ◌||◌, nat_lt, codes, List, [], ◌∷◌, ◌++◌, map, length, filter_map, Option, Some, None, is_some, option_map, option_and_then, unwrap_or, Result, Ok, Err}
use Rattle.std.specs.List.{list_any}
use Rattle.std.specs.Option.{option_or}
use Rattle.ob_times.specs.Times.{moment_instant}
use Rattle.ob_values.specs.declared.value.Value.{Value}
use Rattle.ob_values.specs.declared.value.Value.TheVariants as value
use Rattle.ob_object.specs.declared.kind.Kind.{Kind}
use Rattle.ob_object.specs.declared.head.Slot.{Slot}
use Rattle.ob_object.specs.declared.head.Slot.TheVariants.{Is}
use Rattle.ob_object.specs.declared.head.Head.{Head}
use Rattle.ob_object.specs.declared.write.WriteFault.{WriteFault}
use Rattle.ob_object.specs.declared.write.WriteFault.TheVariants.{WrongKind, Long, Below, Above, NotInRange}
use Rattle.ob_object.specs.Kinds.{same_kind, has_values}
use Rattle.ob_object.specs.Object.{Objects, none, node, Object, children}
use Rattle.ob_object.specs.Write.{verdict}
use Rattle.ob_object.specs.Paths.{is_path, node_path}
use Rattle.ob_contracts.specs.Inherit.{Contracts, contract_of, effective_of, or_else}
use Rattle.ob_contracts.specs.Standard.{with_added, standard}
use Rattle.ob_history.specs.declared.records.Record.{Record}
use Rattle.ob_alarms.specs.declared.rule.Num.{Num}
use Rattle.ob_alarms.specs.declared.rule.Num.TheVariants as num
use Rattle.ob_alarms.specs.Changes.{State as Board, on_value}
use Rattle.ob_site_rules.specs.Build.{Text, Path, child}
use Rattle.ob_site_rules.specs.Faults.{err, first_fault}
use Rattle.ob_site_rules.specs.State.{Log, State, board, source_of, with_board}
use Rattle.ob_site_rules.specs.declared.fault.Fault.{Fault}
use Rattle.ob_site_rules.specs.declared.fault.Fault.TheVariants as faults
use Rattle.ob_site_rules.specs.declared.fault.Fault.TheVariants.{AboveMax, BelowMin, NotSupported, NotWritable, OtherKind, OtherShape, TextTooLong, TooManyEntries}
use Rattle.ob_site_rules.specs.declared.plan.Plan.{Plan}
use Rattle.ob_site_rules.specs.Sameness.{same_slot}
use Rattle.ob_site_rules.specs.Shown.{node_of, rule_of, shown}
use Rattle.ob_site_rules.specs.Places.{reply_at}

-- the same objects, with another slot at the node of this path
abbrev pub with_slot_in : Path → Slot → Objects → Objects
with_slot_in p slot none = none
with_slot_in p slot (node h inner rest) =
    node (cond (is_path p (node_path h)) (record h { slot = slot }) h) (with_slot_in p slot inner) (with_slot_in p slot rest)

-- an object with another slot at the node of this path
abbrev pub with_slot : Path → Slot → Object → Object
with_slot p slot o = record {
  head = cond (is_path p (node_path o.head)) (record o.head { slot = slot }) o.head;
  inner = with_slot_in p slot o.inner;
}

-- the contracts of a site, each under its path: the children of the root's own child `contracts` that are nodes
abbrev pub site_contracts : Object → Contracts
site_contracts root =
    filter_map (λ o. option_map (λ p. (p, o)) (node_path o.head)) (unwrap_or (option_map children (child (codes "contracts") root)) [])

-- whether the node of a path is a contract, or a part of one
abbrev pub is_in_contract : Path → Object → Bool
is_in_contract p root = list_any (λ c. is_some (node_of p c.1)) (site_contracts root)

-- A write to a part of a contract makes the results of the site's contracts anew, as if they were added again.
abbrev pub library_after : Path → Object → Contracts → Contracts
library_after p root lib = cond (is_in_contract p root) (with_added standard (site_contracts root)) lib

-- whether a history has this source
abbrev pub records_from : Plan → Path → Path → Bool
records_from plan source history = is_path source (source_of plan history)

-- a log with one more record
abbrev pub with_record : Record → Log → Log
with_record r l = record l { kept = l.kept ++ r ∷ [] }

-- each history of the node has one more record, of the value at a moment
abbrev pub recorded : Plan → ℕ → Path → Kind → Slot → List (Path × Log) → List (Path × Log)
recorded plan now p k slot ls =
    map (λ l. (l.0, cond (records_from plan p l.0) (with_record (record { time = moment_instant now; kind = k; slot = slot }) l.1) l.1)) ls

-- the number that a rule looks at; what has none is inside the limits
abbrev pub number_in : Slot → Option Num
number_in (Is (value.Int i)) = Some (num.Int i)
number_in (Is (value.Real r)) = Some (num.Real r)
number_in _ = None

-- the alarms after a value of the source of a rule
abbrev pub board_by : Option ℕ → Board → Slot → ℕ → Board
board_by None b slot now = b
board_by (Some rule) b slot now = (on_value b rule (number_in slot) now).0

-- the alarms after a value of the node at a path, whose rule acts if it has one
abbrev pub board_after : Plan → State → ℕ → Path → Slot → Board
board_after plan s now p slot = board_by (rule_of plan p) (board plan s) slot now

-- The value is set; each history of the node has one more record; and the node's rule acts.
abbrev pub write : Plan → ℕ → Path → Kind → Slot → State → State
write plan now p k slot s =
    let root : Object = with_slot p slot s.tree in
    with_board (record s { library = library_after p root s.library; tree = root; logs = recorded plan now p k slot s.logs }) (board_after plan s now p slot)

-- a write of a value equal to the one that is shown does nothing
abbrev pub written : Plan → ℕ → Path → Object → Slot → State → State
written plan now p o slot s = cond (same_slot slot o.head.slot) s (write plan now p o.head.kind slot s)

-- how much of what is stored a log counts for: its capacity, or the records that it has
abbrev pub stored_in : Option ℕ → ℕ → ℕ
stored_in None records = records
stored_in (Some capacity) records = capacity

-- how much of what is stored all logs count for
abbrev pub stored_logs : List (Path × Log) → ℕ
stored_logs [] = 0
stored_logs (l ∷ ls) = stored_in l.1.capacity (length l.1.kept) + stored_logs ls

-- all records and alarm events
abbrev pub stored : List (Path × Log) → Board → ℕ
stored ls b = stored_logs ls + length b.events

-- how many events a history has had, those that rolled off counted
abbrev pub events_ever : Log → ℕ
events_ever l = l.gone + length l.kept

-- more records and alarm events than 1,000,000, or than a history can count
abbrev pub is_over : List (Path × Log) → Board → Bool
is_over ls b = nat_lt 1_000_000 (stored ls b) || list_any (λ l. nat_lt 9_223_372_036_854_775_807 (events_ever l.1)) ls

-- whether the value changes, and its new records and event would be too many
abbrev pub overfills : Plan → State → ℕ → Path → Head → Slot → Bool
overfills plan s now p h slot =
    not (same_slot slot h.slot) && is_over (recorded plan now p h.kind slot s.logs) (board_after plan s now p slot)

-- the object that a range names: a contract, or else what is shown of a node
abbrev pub ranged : Plan → State → Text → Option Object
ranged plan s r = or_else (contract_of s.library r) (cond (is_some (node_of r s.tree)) (shown plan s r) None)

-- whether an object has a child of a name; where no object is known, each name is taken for there
abbrev pub has_child : Text → Option Object → Bool
has_child n None = true
has_child n (Some o) = is_some (child n o)

-- Only an enum is held against its range, where the range names an object.
abbrev pub is_listed : Plan → State → Head → Value → Bool
is_listed plan s h (value.Enum t) = has_child t (option_and_then (ranged plan s) h.facets.range)
is_listed plan s h _ = true

-- the refusal for what a value breaks
abbrev pub fault_of : WriteFault → Fault
fault_of WrongKind = OtherKind
fault_of Long = TextTooLong
fault_of Below = BelowMin
fault_of Above = AboveMax
fault_of NotInRange = faults.NotInRange

-- the refusal of a verdict, if it is one
abbrev pub verdict_fault : Result (Unit {0}) WriteFault → Option Fault
verdict_fault (Ok _) = None
verdict_fault (Err f) = Some (fault_of f)

-- Null is allowed
abbrev pub slot_fault : Plan → State → Head → Slot → Option Fault
slot_fault plan s h (Is v) = verdict_fault (verdict h.kind h.facets.min h.facets.max v (is_listed plan s h v))
slot_fault plan s h _ = None

-- What is wrong with a value for an object: its kind, a text too long, below min, above max, not in range, and last that
-- it would store too much.
abbrev pub value_fault : Plan → State → ℕ → Path → Head → Head → Option Fault
value_fault plan s now p h new =
    option_or (first_fault ((not (same_kind new.kind h.kind), OtherKind) ∷ []))
    (option_or (slot_fault plan s h new.slot) (first_fault ((overfills plan s now p h new.slot, TooManyEntries) ∷ [])))

-- the facet `writable`, which is false where it is left out
abbrev pub is_writable : Option Bool → Bool
is_writable None = false
is_writable (Some b) = b

-- what is wrong with a node that is to be put to: it has no value, or isn't shown as writable
abbrev pub target_fault : Head → Option Fault
target_fault h = first_fault ((not (has_values h.kind), NotSupported) ∷ (not (is_writable h.facets.writable), NotWritable) ∷ [])

-- the value that a body gives, with what it inherits by its own words, taken by itself
abbrev pub given_by : State → Object → Head
given_by s body = (effective_of s.library body None None).head

-- the state, and what it shows at a path
abbrev pub showing : Plan → Path → Object → State → State × Object
showing plan p default s = (s, reply_at plan s p default)

-- a refusal changes nothing and answers its err; without one it is done
abbrev pub unless : Option Fault → State → State × Object → State × Object
unless None s done = done
unless (Some fault) s done = (s, err fault)

-- The value that a body gives is written to the object shown at a path, where nothing is wrong.
abbrev pub write_by : Plan → State → ℕ → Path → Object → Option Fault → Object → State × Object
write_by plan s now p o fault body =
    unless (option_or fault (value_fault plan s now p o.head (given_by s body))) s
    (showing plan p o (written plan now p o (given_by s body).slot s))

-- Put on a node: the tests on the node, that there is a body, and the tests on its value
abbrev pub put : Plan → State → ℕ → Path → Object → Option Object → State × Object
put plan s now p o None = unless (option_or (target_fault o.head) (Some OtherShape)) s (s, o)
put plan s now p o (Some body) = write_by plan s now p o (target_fault o.head) body
