-- Objects put together from their parts.
use Rattle.std.specs.Prelude.{ℕ, pos, List, [], ◌∷◌, Option, Some, None}
use Rattle.ob_times.specs.Times.{Instant}
use Rattle.ob_values.specs.declared.value.Value.TheVariants as value
use Rattle.ob_object.specs.declared.kind.Kind.{Kind}
use Rattle.ob_object.specs.declared.kind.Kind.TheVariants as kind
use Rattle.ob_object.specs.declared.head.Slot.{Slot}
use Rattle.ob_object.specs.declared.head.Slot.TheVariants.{Null, Is}
use Rattle.ob_object.specs.declared.head.Head.{Head}
use Rattle.ob_object.specs.Object.{none, Object, empty_head, in_row, children}
use Rattle.ob_object.specs.WellFormed.{named}

-- the bytes of a text
abbrev pub Text : Type 0
Text = List ℕ

-- a path, and behind it a query with its question mark, if there is one
abbrev pub Path : Type 0
Path = List ℕ

-- a head with these objects in it
abbrev pub whole : Head → List Object → Object
whole h os = record { head = h; inner = in_row os }

-- a head with nothing in it
abbrev pub leaf : Head → Object
leaf h = record { head = h; inner = none }

-- a list of one word
abbrev pub word : Text → Option (List Text)
word w = Some (w ∷ [])

-- an object without its name
abbrev pub nameless : Object → Object
nameless o = record { head = record o.head { name = None }; inner = o.inner }

-- an object under a name, in place of its own
abbrev pub under_name : Text → Object → Object
under_name n o = record { head = record o.head { name = Some n }; inner = o.inner }

-- an object under an href, or under none, in place of its own
abbrev pub under_href : Option Text → Object → Object
under_href h o = record { head = record o.head { href = h }; inner = o.inner }

-- a child of a value kind
abbrev pub valued : Kind → Text → Slot → Object
valued k n slot = leaf (record (empty_head k) { name = Some n; slot = slot })

-- a ref of a name to a path, with the contracts of what it leads to
abbrev pub ref_to : Text → Path → Option (List Text) → Object
ref_to n p ws = leaf (record (empty_head kind.Ref) { name = Some n; href = Some p; is = ws })

-- an op of a name at a path, with the contracts that it takes and gives
abbrev pub op_at : Text → Path → Text → Text → Object
op_at n p takes gives = leaf (record (empty_head kind.Op) { name = Some n; href = Some p; input = word takes; output = word gives })

-- a feed of a name at a path, with the contract of its events and that of its input
abbrev pub feed_at : Text → Path → Text → Text → Object
feed_at n p of takes = leaf (record (empty_head kind.Feed) { name = Some n; href = Some p; of = word of; input = word takes })

-- the value of a str
abbrev pub text_slot : Text → Slot
text_slot t = Is (value.Str t)

-- the value of an int from 0 on
abbrev pub number_slot : ℕ → Slot
number_slot n = Is (value.Int (pos n))

-- a time, or null
abbrev pub time_slot : Option Instant → Slot
time_slot None = Null
time_slot (Some t) = Is (value.Abstime t)

-- the object's child of a name
abbrev pub child : Text → Object → Option Object
child n o = named n (children o)
