-- Worked rows: what a client reads in a reply to a call on a watch, and what it holds then.
use Rattle.std.specs.Prelude.{◌≡◌, ℕ, pos, codes, List, [], ◌∷◌, Some}
use Rattle.std.specs.Str.{bytes_eq}
use Rattle.ob_values.specs.declared.value.Value.TheVariants as value
use Rattle.ob_object.specs.declared.head.Head.{Head}
use Rattle.ob_object.specs.declared.head.Slot.TheVariants.{Is}
use Rattle.ob_object.specs.declared.kind.Kind.{Kind}
use Rattle.ob_object.specs.declared.kind.Kind.TheVariants as kind
use Rattle.ob_object.specs.Object.{Object, none, in_row, empty_head}
use Rattle.ob_watching.specs.Operations.{Operation, Add, Remove, PollChanges, PollRefresh, Shows, Lists, Refuses, Values, Other}
use Rattle.ob_watching.specs.Replay.{replay_heard}
use Rattle.ob_watching.specs.WatchOuts.{Text, Held, Heard, heard}

-- an operation on a watch whose input, parts and faults are numbers: they don't matter here
abbrev pub Asks : Type 0
Asks = Operation Text ℕ ℕ ℕ

-- what is read in a reply to an operation
abbrev pub read_in : Asks → Object → Heard
read_in op reply = heard op reply

-- what is held after the reply
abbrev pub held_after : Asks → Object → List Held → List Held
held_after op reply held = replay_heard bytes_eq op (heard op reply) held

-- a head with these objects in it
abbrev pub whole : Head → List Object → Object
whole h os = record { head = h; inner = in_row os }

-- an object that is held under an href
abbrev pub under : Text → Object → Held
under text o = record { text = text; content = Shows o }

-- the head of a kind under a name
abbrev pub named_head : Kind → Text → Head
named_head k name = record (empty_head k) { name = Some name }

-- an object with a child `values` of this kind, and these in it
abbrev pub out_of : Head → Kind → List Object → Object
out_of h k os = whole h (whole (named_head k (codes "values")) os ∷ [])

-- a WatchOut that names no contract
abbrev pub out : List Object → Object
out os = out_of (empty_head kind.Obj) kind.List os

-- the head of an int with a value
abbrev pub int_head : ℕ → Head
int_head n = record (empty_head kind.Int) { slot = Is (value.Int (pos n)) }

-- an entry of a WatchOut: an int of 7 under the href `p`
abbrev pub point : Object
point = record { head = record (int_head 7) { href = Some (codes "p") }; inner = none }

-- what is held of it: without the href
abbrev pub held_point : Object
held_point = record { head = int_head 7; inner = none }

-- an event without a name
abbrev pub event : ℕ → Object
event n = record { head = int_head n; inner = none }

-- an event with a name
abbrev pub named_event : Text → ℕ → Object
named_event name n = record { head = record (int_head n) { name = Some name }; inner = none }

-- an entry of a WatchOut: a feed under the href `f`, with these children
abbrev pub feed : List Object → Object
feed os = whole (record (empty_head kind.Feed) { href = Some (codes "f") }) os

-- what is held of it: how many events were missed, and these
abbrev pub lists : ℕ → List Object → Held
lists missed events = record { text = codes "f"; content = Lists (whole (empty_head kind.Feed) []) missed events }

-- an err with words that no server of this kind has
abbrev pub error : Object
error = whole (record (empty_head kind.Err) { href = Some (codes "e"); is = Some (codes "x:OtherErr" ∷ []) }) []

-- what is held of it: without the href
abbrev pub held_error : Held
held_error = record { text = codes "e"; content = Refuses (whole (record (empty_head kind.Err) { is = Some (codes "x:OtherErr" ∷ []) }) []) }

-- a WatchOut is told by its shape
abbrev pub ByItsShape : Type 0
ByItsShape = read_in PollRefresh (out (point ∷ [])) ≡ Values (under (codes "p") held_point ∷ [])

-- and not by the contract that it names: `values` is a list, in an obj
abbrev pub NotByItsContract : Type 0
NotByItsContract = read_in PollRefresh (out_of (record (empty_head kind.Obj) { is = Some (codes "obix:WatchOut" ∷ []) }) kind.Obj (point ∷ [])) ≡ Other

-- nor is a list a WatchOut, whatever it names
abbrev pub NotAnotherKind : Type 0
NotAnotherKind = read_in PollRefresh (out_of (record (empty_head kind.List) { is = Some (codes "obix:WatchOut" ∷ []) }) kind.List (point ∷ [])) ≡ Other

-- each entry has an href
abbrev pub NoHref : Type 0
NoHref = read_in PollRefresh (out (point ∷ event 1 ∷ [])) ≡ Other

-- events are held without names
abbrev pub WithoutNames : Type 0
WithoutNames = read_in PollRefresh (out (feed (named_event (codes "e1") 1 ∷ event 2 ∷ []) ∷ [])) ≡ Values (lists 0 (event 1 ∷ event 2 ∷ []) ∷ [])

-- in the reply to pollChanges a child `dropped` tells how many events dropped out, in others it is an event like any other
abbrev pub DroppedInChanges : Type 0
DroppedInChanges = read_in PollChanges (out (feed (named_event (codes "dropped") 3 ∷ event 4 ∷ []) ∷ [])) ≡ Values (lists 3 (event 4 ∷ []) ∷ [])

-- in the reply to pollRefresh a child `dropped` is an event
abbrev pub DroppedInRefresh : Type 0
DroppedInRefresh = read_in PollRefresh (out (feed (named_event (codes "dropped") 3 ∷ event 4 ∷ []) ∷ [])) ≡ Values (lists 0 (event 3 ∷ event 4 ∷ []) ∷ [])

-- and in the reply to add
abbrev pub DroppedInAdd : Type 0
DroppedInAdd = read_in (Add []) (out (feed (named_event (codes "dropped") 3 ∷ event 4 ∷ []) ∷ [])) ≡ Values (lists 0 (event 3 ∷ event 4 ∷ []) ∷ [])

-- a held feed goes on
abbrev pub GoesOn : Type 0
GoesOn = held_after PollChanges (out (feed (named_event (codes "dropped") 3 ∷ event 4 ∷ []) ∷ [])) (lists 1 (event 0 ∷ []) ∷ []) ≡ lists 4 (event 0 ∷ event 4 ∷ []) ∷ []

-- an err entry is held after a pollRefresh as it came, and passed over after an add and a pollChanges
abbrev pub ErrHeld : Type 0
ErrHeld = held_after PollRefresh (out (error ∷ point ∷ [])) [] ≡ held_error ∷ under (codes "p") held_point ∷ []

-- in the reply to add an err entry is passed over
abbrev pub ErrInAdd : Type 0
ErrInAdd = held_after (Add []) (out (error ∷ point ∷ [])) [] ≡ under (codes "p") held_point ∷ []

-- and in the reply to pollChanges
abbrev pub ErrInChanges : Type 0
ErrInChanges = held_after PollChanges (out (error ∷ point ∷ [])) [] ≡ under (codes "p") held_point ∷ []

-- a remove is done whatever the reply is, but for an err
abbrev pub RemovedByAny : Type 0
RemovedByAny = held_after (Remove (codes "p" ∷ [])) (event 0) (held_error ∷ under (codes "p") held_point ∷ []) ≡ held_error ∷ []

-- after an err nothing was removed
abbrev pub NotRemoved : Type 0
NotRemoved = held_after (Remove (codes "p" ∷ [])) error (under (codes "p") held_point ∷ []) ≡ under (codes "p") held_point ∷ []
