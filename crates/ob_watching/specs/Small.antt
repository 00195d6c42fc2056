-- A small closed site: nodes with numbers as values, the values of one of them recorded in a history with a
-- capacity, and batches.
use Rattle.std.specs.Prelude.{ℕ, ◌+◌, ◌-◌, Bool, true, false, cond, ◌&&◌, List, [], ◌∷◌, ◌++◌, map, length, drop, nat_le, ◌==◌, Option, Some, None, is_some, Result, Ok, Err}
use Rattle.std.specs.List.{list_any}
use Rattle.ob_watching.specs.Operations.{Operation, Target, Itself, Nowhere, NewWatch, OneWatch, Found, ObjectAt, FeedAt, NotFound, ReplyOf, Out, Nil, HeardOf, Values, Nothing, Other}
use Rattle.ob_watching.specs.Sites.{Site}
use Rattle.ob_watching.specs.Tables.{lookup, replace}

-- an event of the history: a value, and when it was written
pub record Event : Type 0 where
  pub time : ℕ
  pub value : ℕ

-- the values of the nodes by their numbers; the history's kept records, how many rolled off, and its capacity
pub record Nodes : Type 0 where
  pub nodes : List (ℕ × ℕ)
  pub kept : List Event
  pub gone : ℕ
  pub capacity : ℕ

-- why something is refused
pub data Fault : Type 0 where
  NoSuch : Fault
  NotWatchable : Fault
  TooManyWatches : Fault
  TooManyItems : Fault
  TooManyInAll : Fault
  TooManyBytes : Fault
  NotInBatch : Fault
  LeaseOutOfRange : Fault

-- the parts of a watch
pub data Part : Type 0 where
  Whole : Part
  Lease : Part

-- what an action shows, or why it failed
pub data Outcome : Type 0 where
  Shown : (values : List ℕ) → Outcome
  Failed : (fault : Fault) → Outcome

-- what the site itself replies: to one action, or to each of a batch
pub data Own : Type 0 where
  One : (outcome : Outcome) → Own
  Each : (outcomes : List Outcome) → Own

-- a node is read or put to; or a watch is asked inside a batch, which isn't done
pub data Action : Type 0 where
  Get : (path : ℕ) → Action
  Put : (path : ℕ) → (value : ℕ) → Action
  AskWatch : (number : ℕ) → Action

-- beside an asked path stands a time from which on events are wanted, or a lease
pub data Request : Type 0 where
  Do : (action : Action) → Request
  Batch : (actions : List Action) → Request
  Make : Request
  Ask : (number : ℕ) → (operation : Operation ℕ ℕ Part Fault) → Request
  AskNothing : Request

-- whom a request is for
abbrev pub target : Request → Target ℕ ℕ Part Fault
target (Do action) = Itself
target (Batch actions) = Itself
target Make = NewWatch
target (Ask number operation) = OneWatch number operation
target AskNothing = Nowhere

-- the root has number 0 and shows all values, a node its own
abbrev pub root : ℕ
root = 0

-- the node whose values are recorded
abbrev pub source : ℕ
source = 1

-- the history's feed
abbrev pub feed_path : ℕ
feed_path = 9

-- a value as it is shown, if there is one
abbrev pub value_in : Option ℕ → List ℕ
value_in None = []
value_in (Some value) = value ∷ []

-- the values that are shown at a path
abbrev pub shown : Nodes → ℕ → List ℕ
shown s path = cond (path == root) (map (λ n. n.1) s.nodes) (value_in (lookup path s.nodes))

-- whether a path is the root or a node
abbrev pub has_node : Nodes → ℕ → Bool
has_node s path = cond (path == root) true (is_some (lookup path s.nodes))

-- the events of the feed at a path, and none elsewhere
abbrev pub events : Nodes → ℕ → List Event
events s path = cond (path == feed_path) s.kept []

-- how many of its events rolled off
abbrev pub gone : Nodes → ℕ → ℕ
gone s path = cond (path == feed_path) s.gone 0

-- what an asked path names, beside it the time from which on events are wanted
abbrev pub find : Nodes → List ℕ → ℕ → ℕ → Found ℕ ℕ Fault
find s numbers path from = cond (path == feed_path) (FeedAt path from) (cond (has_node s path) (ObjectAt path) (NotFound NoSuch))

-- another value is written and, if it is the source's, recorded
abbrev pub written : Nodes → ℕ → ℕ → ℕ → Nodes
written s path value now = record {
  nodes = replace path (Some value) s.nodes;
  kept = s.kept ++ cond (path == source) (record { time = now; value = value } ∷ []) [];
  gone = s.gone;
  capacity = s.capacity;
}

-- an equal value does nothing
abbrev pub put_value : Nodes → ℕ → ℕ → ℕ → Option ℕ → Nodes × Outcome
put_value s path value now None = (s, Failed NoSuch)
put_value s path value now (Some old) = cond (old == value) (s, Shown (value ∷ [])) (written s path value now, Shown (value ∷ []))

-- one action: what it leaves, and its outcome
abbrev pub do_one : Nodes → List ℕ → Action → ℕ → Nodes × Outcome
do_one s numbers (Get path) now = (s, cond (has_node s path) (Shown (shown s path)) (Failed NoSuch))
do_one s numbers (Put path value) now = put_value s path value now (lookup path s.nodes)
do_one s numbers (AskWatch n) now = (s, Failed (cond (list_any (λ k. k == n) numbers) NotInBatch NoSuch))

-- a batch: each item sees the ones before
abbrev pub do_all : Nodes → List ℕ → List Action → ℕ → Nodes × List Outcome
do_all s numbers [] now = (s, [])
do_all s numbers (action ∷ actions) now =
    let one = do_one s numbers action now in
    let rest = do_all one.0 numbers actions now in
    (rest.0, one.1 ∷ rest.1)

-- what a request to the site leaves, and what it replies
abbrev pub act_itself : Nodes → List ℕ → Request → ℕ → Nodes × Own
act_itself s numbers (Do action) now = (let one = do_one s numbers action now in (one.0, One one.1))
act_itself s numbers (Batch actions) now = (let all = do_all s numbers actions now in (all.0, Each all.1))
act_itself s numbers _ now = (s, One (Failed NoSuch))

-- the oldest records are dropped until at most the capacity is kept
abbrev pub roll : Nodes → Nodes
roll s = record {
  nodes = s.nodes;
  kept = drop (length s.kept - s.capacity) s.kept;
  gone = s.gone + (length s.kept - s.capacity);
  capacity = s.capacity;
}

-- a lease of a second or more, in nanoseconds
abbrev pub lease_asked : Nodes → ℕ → Result ℕ Fault
lease_asked s lease = cond (nat_le 1_000_000_000 lease) (Ok lease) (Err LeaseOutOfRange)

-- the same values in the same order
abbrev pub same_values : List ℕ → List ℕ → Bool
same_values [] [] = true
same_values [] (y ∷ ys) = false
same_values (x ∷ xs) [] = false
same_values (x ∷ xs) (y ∷ ys) = (x == y) && same_values xs ys

-- replies are sent as they are
abbrev pub Sent : Type 0
Sent = ReplyOf Own Part ℕ (List ℕ) Event Fault Fault

-- what a client reads in a reply
abbrev pub heard : Operation ℕ ℕ Part Fault → Sent → HeardOf ℕ (List ℕ) Event Fault
heard op (Out readings) = Values readings
heard op Nil = Nothing
heard op _ = Other

-- the site of these parts
abbrev pub small : Site
small = record {
  State = Nodes;
  Request = Request;
  Reply = Own;
  Text = ℕ;
  Input = ℕ;
  Path = ℕ;
  Filter = ℕ;
  Object = List ℕ;
  Event = Event;
  Fault = Fault;
  Err = Fault;
  Part = Part;
  whole = Whole;
  lease = Lease;
  target = target;
  find = find;
  act = act_itself;
  roll = roll;
  shown = shown;
  events = events;
  gone = gone;
  passes = λ from event. nat_le from event.time;
  feed = λ path. [];
  lease_asked = lease_asked;
  Sent = Sent;
  err = λ fault. fault;
  sent = λ reply. reply;
  heard = heard;
  same_text = λ a b. a == b;
  size = λ text. text;
  same = same_values;
  not_found = NoSuch;
  too_many_watches = TooManyWatches;
  too_many_items = TooManyItems;
  too_many_in_all = TooManyInAll;
  too_many_bytes = TooManyBytes;
}
