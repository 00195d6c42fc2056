-- What is said of an object, completed by what is given of another.
use Rattle.std.specs.Option.{option_or}
use Rattle.ob_object.specs.declared.facet.Facets.{Facets}
use Rattle.ob_object.specs.declared.head.Slot.{Slot}
use Rattle.ob_object.specs.declared.head.Slot.TheVariants.{Absent, Null, Is}
use Rattle.ob_object.specs.declared.head.Head.{Head}

-- a slot, or where none is given the other one
abbrev pub slot_or : Slot → Slot → Slot
slot_or Absent other = other
slot_or Null other = Null
slot_or (Is v) other = Is v

-- each facet, or where it is not there the other one
abbrev pub facets_or : Facets → Facets → Facets
facets_or f g = record {
  display = option_or f.display g.display;
  display_name = option_or f.display_name g.display_name;
  icon = option_or f.icon g.icon;
  min = option_or f.min g.min;
  max = option_or f.max g.max;
  precision = option_or f.precision g.precision;
  range = option_or f.range g.range;
  status = option_or f.status g.status;
  tz = option_or f.tz g.tz;
  unit = option_or f.unit g.unit;
  writable = option_or f.writable g.writable;
}

-- Where it lacks `of`, `in`, `out`, the slot or a facet it has that of the other. It keeps its kind, its name, its href and its `is`.
abbrev pub completed : Head → Head → Head
completed h given = record {
  kind = h.kind;
  name = h.name;
  href = h.href;
  is = h.is;
  of = option_or h.of given.of;
  input = option_or h.input given.input;
  output = option_or h.output given.output;
  slot = slot_or h.slot given.slot;
  facets = facets_or h.facets given.facets;
}
