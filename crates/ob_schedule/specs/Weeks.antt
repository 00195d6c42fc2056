-- What a file of schedules says.
use Rattle.std.specs.Prelude.{◌≡◌, ℕ, ◌/◌, codes, List, [], ◌∷◌, map, unwrap_or, unsigned_abs, pos, Option, Some}
use Rattle.jiff.specs.Words.{plain_zone}
use Rattle.jiff.specs.Placed.{IsPosixZone}
use Rattle.ob_object.specs.declared.kind.Kind.{Kind}
use Rattle.ob_object.specs.declared.kind.Kind.TheVariants as kind
use Rattle.ob_object.specs.declared.head.Slot.{Slot}
use Rattle.ob_object.specs.declared.head.Slot.TheVariants.{Null}
use Rattle.ob_object.specs.Object.{Object, children}
use Rattle.ob_weekly.specs.declared.schedule.Entry.{Entry}
use Rattle.ob_weekly.specs.declared.schedule.Schedule.{Schedule}
use Rattle.ob_weekly.specs.declared.schedule.Schedules.{Schedules}
use Rattle.ob_schedule.specs.Forms.{said, slot_given, zone_text, point_text, day_value, time_value}
use Rattle.ob_schedule.specs.PointRules.{Text}

-- the entries of one point
pub record Week : Type 0 where
  pub point : Text
  pub kind : Kind
  pub entries : List Entry

-- a schedule that was read
abbrev pub week : Schedule → Week
week s = record { point = s.point; kind = s.kind; entries = s.entries.items }

-- what is said by a child of a name, which is there in a document of the form
abbrev pub said_or : {A : Type 0} → A → List ℕ → (Object → Option A) → Object → A
said_or none name read o = unwrap_or (said name read o) none

abbrev pub slot_in : Object → Option Slot
slot_in o = Some (slot_given o.head.kind o.head.slot)

abbrev pub kind_in : Object → Option Kind
kind_in o = Some o.head.kind

-- the children of the child of a name
abbrev pub listed_in : List ℕ → Object → List Object
listed_in name o = said_or [] name (λ c. Some (children c)) o

abbrev pub entry_of : Object → Entry
entry_of e = record {
  day = unsigned_abs (said_or (pos 0) (codes "day") day_value e);
  at_ms = said_or 0 (codes "at") time_value e / 1_000_000;
  slot = said_or Null (codes "value") slot_in e;
}

-- the kind of the first entry's value, which is that of the point
abbrev pub kind_of : List Object → Kind
kind_of [] = kind.Obj
kind_of (e ∷ es) = said_or kind.Obj (codes "value") kind_in e

abbrev pub week_of : Object → Week
week_of s = record {
  point = said_or [] (codes "point") point_text s;
  kind = kind_of (listed_in (codes "entries") s);
  entries = map entry_of (listed_in (codes "entries") s);
}

-- The schedules are those that a document of the form says, in its order, by the clock of its zone.
pub record Says (doc : Object) (s : Schedules) : Type 0 where
  pub zone : IsPosixZone (said_or [] (codes "zone") zone_text doc) (plain_zone s.zone)
  pub weeks : map week s.list.items ≡ map week_of (listed_in (codes "schedules") doc)
