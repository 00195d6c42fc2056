-- What a client reads in the reply to a call on a watch, by its shape, whatever contracts it names. Source: oBIX 1.1,
-- chapter 12 (Watches); the child `dropped` of a feed entry is this profile's own.
use Rattle.std.specs.Prelude.{ℕ, pos, Bool, true, false, cond, not, codes, List, [], map, Option, Some, None, is_some, option_map, option_and_then, unwrap_or}
use Rattle.std.specs.List.{filter, list_all}
use Rattle.ob_values.specs.declared.value.Value.TheVariants as value
use Rattle.ob_object.specs.declared.kind.Kind.{Kind}
use Rattle.ob_object.specs.declared.kind.Kind.TheVariants as kind
use Rattle.ob_object.specs.declared.head.Slot.{Slot}
use Rattle.ob_object.specs.declared.head.Slot.TheVariants.{Is}
use Rattle.ob_object.specs.Kinds.{same_kind}
use Rattle.ob_object.specs.Object.{Object, none, children}
use Rattle.ob_object.specs.WellFormed.{has_name, named}
use Rattle.ob_watching.specs.Operations.{Operation, Add, Remove, PollChanges, PollRefresh, ContentOf, Shows, Lists, Refuses, ReadingOf, HeardOf, Values, Nothing, Other}

-- the bytes of a text
abbrev pub Text : Type 0
Text = List ℕ

-- What is held under an href: an object, an err as it came, or a feed without its children, with its events. The href is
-- not part of it.
abbrev pub Held : Type 0
Held = ReadingOf Text Object Object Object

-- what is read in a reply
abbrev pub Heard : Type 0
Heard = HeardOf Text Object Object Object

-- whether an object is of a kind
abbrev pub is_of_kind : Kind → Object → Bool
is_of_kind k o = same_kind o.head.kind k

-- an object without its name
abbrev pub without_name : Object → Object
without_name o = record { head = record o.head { name = None }; inner = o.inner }

-- an object without its href
abbrev pub without_href : Object → Object
without_href o = record { head = record o.head { href = None }; inner = o.inner }

-- whether a child is the one named `dropped`
abbrev pub is_dropped : Object → Bool
is_dropped o = has_name (codes "dropped") o.head.name

-- the number of an int from 0 on, or else 0
abbrev pub number_in : Slot → ℕ
number_in (Is (value.Int (pos n))) = n
number_in _ = 0

-- how many events dropped out unreported
abbrev pub dropped_in : List Object → ℕ
dropped_in os = unwrap_or (option_map (λ o. number_in o.head.slot) (named (codes "dropped") os)) 0

-- A feed's events are held without names. In the reply to pollChanges alone a child `dropped` is the number of events that
-- dropped out.
abbrev pub feed_read : Bool → Object → List Object → ContentOf Object Object Object
feed_read true feed os = Lists feed (dropped_in os) (map without_name (filter (λ o. not (is_dropped o)) os))
feed_read false feed os = Lists feed 0 (map without_name os)

-- what an entry tells: of a feed its events, an err as it is, any other object as it is
abbrev pub content_if : Bool → Bool → Bool → Object → ContentOf Object Object Object
content_if changes feed error o =
    cond feed (feed_read changes (record { head = o.head; inner = none }) (children o)) (cond error (Refuses o) (Shows o))

-- the same, by the kind of the entry
abbrev pub content_read : Bool → Object → ContentOf Object Object Object
content_read changes o = content_if changes (is_of_kind kind.Feed o) (is_of_kind kind.Err o) o

-- an entry of a WatchOut, in the reply to pollChanges or to another operation
abbrev pub entry_read : Bool → Object → Held
entry_read changes o = record { text = unwrap_or o.head.href []; content = content_read changes (without_href o) }

-- the items of a list that have an href each
abbrev pub items_of : Object → Option (List Object)
items_of o = cond (is_of_kind kind.List o) (cond (list_all (λ item. is_some item.head.href) (children o)) (Some (children o)) None) None

-- the entries of a WatchOut: of an obj with a list `values` whose items have an href each
abbrev pub entries_of : Object → Option (List Object)
entries_of reply = cond (is_of_kind kind.Obj reply) (option_and_then items_of (named (codes "values") (children reply))) None

-- what is read where the reply has entries, if it has
abbrev pub heard_entries : Bool → Option (List Object) → Heard
heard_entries changes None = Other
heard_entries changes (Some os) = Values (map (entry_read changes) os)

-- What is read in the reply to an operation: the entries of a WatchOut; of a remove, that it was done unless the reply is
-- an err.
abbrev pub heard : {Input Part Fault : Type 0} → Operation Text Input Part Fault → Object → Heard
heard (Add asked) reply = heard_entries false (entries_of reply)
heard (Remove texts) reply = cond (is_of_kind kind.Err reply) Other Nothing
heard PollChanges reply = heard_entries true (entries_of reply)
heard PollRefresh reply = heard_entries false (entries_of reply)
heard _ reply = Other
