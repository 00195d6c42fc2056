-- How constructs follow each other: the elements that are open, and what each construct makes of them.
use Rattle.std.specs.Prelude.{◌≡◌, ℕ, Bool, true, false, nat_le, List, [], ◌∷◌, length, Option, Some, None, Result, Ok, Err, IsTrue, if◌then◌else◌, codes}
use Rattle.std.specs.FinSet as set
use Rattle.std.specs.Coded.{Coded-set, coded_bool, ×_prop, Unit-prop}
use Rattle.ob_scan.specs.declared.piece.Place.{Place}
use Rattle.ob_scan.specs.declared.piece.Place.TheVariants as places
use Rattle.ob_spelling.specs.declared.fault.ValueFault.{ValueFault}
use Rattle.ob_spelling.specs.declared.fault.ValueFault.TheVariants.{NotName}
use Rattle.ob_object.specs.declared.kind.Kind.{Kind}
use Rattle.ob_object.specs.declared.kind.Kind.TheVariants as kinds
use Rattle.ob_object.specs.declared.head.Head.{Head}
use Rattle.ob_object.specs.Kinds.{same_kind}
use Rattle.ob_object.specs.Fits.{fits_head}
use Rattle.ob_object.specs.Object.{Object, none, children, empty_head}
use Rattle.ob_object.specs.WellFormed.{is_taken, with_child}
use Rattle.ob_encoding.specs.declared.field.TextField.{TextField}
use Rattle.ob_encoding.specs.declared.field.TextField.TheVariants as texts
use Rattle.ob_encoding.specs.declared.part.Part.{Part}
use Rattle.ob_encoding.specs.declared.part.Part.TheVariants as part
use Rattle.ob_encoding.specs.Kinds.{same, kind_of}
use Rattle.ob_encoding.specs.Parts.{put_part}
use Rattle.ob_xml.specs.declared.doc.Doc.{Doc}
use Rattle.ob_xml.specs.declared.refused.Why.{Why}
use Rattle.ob_xml.specs.declared.refused.Why.TheVariants.{Markup, Element, Mismatch, Twice, SameName, Value, Deep}
use Rattle.ob_xml.specs.declared.meaning.Said.{Said}
use Rattle.ob_xml.specs.declared.meaning.Said.TheVariants as said
use Rattle.ob_xml.specs.Indexes.{NameSet}
use Rattle.ob_xml.specs.Meanings.{Meaning, opening, attribute, tag_end, empty_end, closing, skipped, ending, mark}

pub data State : Type 0 where
  start : State
  -- behind EF BB BF
  marked : State
  -- between tags: the xmlns of the root, and the open elements with what they hold so far, the innermost first
  between : Option (List ℕ) → List Object → State
  -- in a start tag: the names of its attributes so far, and what they say of the object
  in_tag : Option (List ℕ) → NameSet → Head → List Object → State
  -- behind the one element
  behind : Doc → State
  -- the document is whole
  whole : Doc → State

abbrev pub beginning : State
beginning = start

-- where the next construct stands
abbrev pub place_of : State → Place
place_of start = places.Start
place_of marked = places.Marked
place_of (between ns outer) = places.Between
place_of (in_tag ns names h outer) = places.InTag
place_of (behind d) = places.After
place_of (whole d) = places.After

-- the kind of the tag; outside tags it is of no account
abbrev pub kind_in : State → Kind
kind_in start = kinds.Obj
kind_in marked = kinds.Obj
kind_in (between ns outer) = kinds.Obj
kind_in (in_tag ns names h outer) = h.kind
kind_in (behind d) = kinds.Obj
kind_in (whole d) = kinds.Obj

abbrev pub bare : Head → Object
bare h = record { head = h; inner = none }

-- a whole element goes to the element round it
abbrev pub closed : Option (List ℕ) → Object → List Object → State
closed ns o [] = behind (record { ns = ns; root = o })
closed ns o (parent ∷ outer) = between ns (with_child parent o ∷ outer)

abbrev pub closed_as : Option Kind → Option (List ℕ) → Object → List Object → Result State Why
closed_as None ns o outer = Err Element
closed_as (Some k) ns o outer = if same_kind k o.head.kind then Ok (closed ns o outer) else Err Mismatch

abbrev pub end_tag : Option (List ℕ) → List Object → List ℕ → Result State Why
end_tag ns [] name = Err Markup
end_tag ns (o ∷ outer) name = closed_as (kind_of name) ns o outer

abbrev pub opened_as : Option Kind → Option (List ℕ) → List Object → Result State Why
opened_as None ns outer = Err Element
opened_as (Some k) ns outer = if nat_le 32 (length outer) then Err Deep else Ok (in_tag ns set.empty (empty_head k) outer)

abbrev pub step_between : Option (List ℕ) → List Object → Meaning → Result State Why
step_between ns outer (opening name) = opened_as (kind_of name) ns outer
step_between ns outer (attribute name answer) = Err Markup
step_between ns outer tag_end = Err Markup
step_between ns outer empty_end = Err Markup
step_between ns outer (closing name) = end_tag ns outer name
step_between ns outer skipped = Ok (between ns outer)
step_between ns outer ending = Err Markup
step_between ns outer mark = Err Markup

-- the children of the innermost open element
abbrev pub siblings : List Object → List Object
siblings [] = []
siblings (parent ∷ outer) = children parent

-- the root alone has an xmlns
abbrev pub with_ns : Option (List ℕ) → List Object → List ℕ → List ℕ → Option (List ℕ)
with_ns ns [] n text = if same n (codes "xmlns") then Some text else ns
with_ns ns (parent ∷ outer) n text = ns

abbrev pub is_name_twice : TextField → List ℕ → List Object → Bool
is_name_twice texts.Name t os = is_taken (Some t) os
is_name_twice _ t os = false

-- the part is a name that one of the objects has
abbrev pub is_twice : Part → List Object → Bool
is_twice (part.Text f t) os = is_name_twice f t os
is_twice (part.Words f ws) os = false
is_twice (part.Null b) os = false
is_twice (part.Val v) os = false
is_twice (part.Max v) os = false
is_twice (part.Min v) os = false
is_twice (part.Precision z) os = false
is_twice (part.Status s) os = false
is_twice (part.Writable b) os = false

-- the head, with one part more, fits its kind unless the part is a name of 0 or more than 255 bytes
abbrev pub kept : Option (List ℕ) → NameSet → Head → List Object → Bool → Result State Why
kept ns names h outer twice = if fits_head h then (if twice then Err SameName else Ok (in_tag ns names h outer)) else Err (Value NotName)

abbrev pub told : Option (List ℕ) → NameSet → Head → List Object → List ℕ → Result Said ValueFault → Result State Why
told ns names h outer n (Err e) = Err (Value e)
told ns names h outer n (Ok (said.Other text)) = Ok (in_tag (with_ns ns outer n text) (set.insert names n) h outer)
told ns names h outer n (Ok (said.Part p)) = kept ns (set.insert names n) (put_part p h) outer (is_twice p (siblings outer))

abbrev pub step_attribute : Option (List ℕ) → NameSet → Head → List Object → List ℕ → Result Said ValueFault → Result State Why
step_attribute ns names h outer n answer = if set.contains names n then Err Twice else told ns names h outer n answer

abbrev pub step_in_tag : Option (List ℕ) → NameSet → Head → List Object → Meaning → Result State Why
step_in_tag ns names h outer (opening name) = Err Markup
step_in_tag ns names h outer (attribute n answer) = step_attribute ns names h outer n answer
step_in_tag ns names h outer tag_end = Ok (between ns (bare h ∷ outer))
step_in_tag ns names h outer empty_end = Ok (closed ns (bare h) outer)
step_in_tag ns names h outer (closing name) = Err Markup
step_in_tag ns names h outer skipped = Err Markup
step_in_tag ns names h outer ending = Err Markup
step_in_tag ns names h outer mark = Err Markup

abbrev pub step_behind : Doc → Meaning → Result State Why
step_behind d (opening name) = Err Markup
step_behind d (attribute name answer) = Err Markup
step_behind d tag_end = Err Markup
step_behind d empty_end = Err Markup
step_behind d (closing name) = Err Markup
step_behind d skipped = Ok (behind d)
step_behind d ending = Ok (whole d)
step_behind d mark = Err Markup

abbrev pub step_start : Meaning → Result State Why
step_start mark = Ok marked
step_start (opening name) = step_between None [] (opening name)
step_start (attribute name answer) = Err Markup
step_start tag_end = Err Markup
step_start empty_end = Err Markup
step_start (closing name) = Err Markup
step_start skipped = Ok (between None [])
step_start ending = Err Markup

abbrev pub step : State → Meaning → Result State Why
step start m = step_start m
step marked m = step_between None [] m
step (between ns outer) m = step_between ns outer m
step (in_tag ns names h outer) m = step_in_tag ns names h outer m
step (behind d) m = step_behind d m
step (whole d) m = Err Markup

-- each open element has a name that no child of the one round it has, or none
abbrev pub AreFree : List Object → Type 0
AreFree [] = Unit {0}
AreFree (o ∷ outer) = (is_taken o.head.name (siblings outer) ≡ false) × AreFree outer

-- what the attributes say so far fits the kind, and names are free
abbrev pub IsSound : State → Type 0
IsSound start = Unit {0}
IsSound marked = Unit {0}
IsSound (between ns outer) = AreFree outer
IsSound (in_tag ns names h outer) = IsTrue (fits_head h) × AreFree (bare h ∷ outer)
IsSound (behind d) = Unit {0}
IsSound (whole d) = Unit {0}

pub AreFree-prop : (outer : List Object) → IsProp (AreFree outer)
AreFree-prop [] = Unit-prop
AreFree-prop (o ∷ outer) = ×_prop (Coded-set coded_bool (is_taken o.head.name (siblings outer)) false) (AreFree-prop outer)

pub IsSound-prop : (s : State) → IsProp (IsSound s)
IsSound-prop start = Unit-prop
IsSound-prop marked = Unit-prop
IsSound-prop (between ns outer) = AreFree-prop outer
IsSound-prop (in_tag ns names h outer) = ×_prop (Coded-set coded_bool (fits_head h) true) (AreFree-prop (bare h ∷ outer))
IsSound-prop (behind d) = Unit-prop
IsSound-prop (whole d) = Unit-prop
