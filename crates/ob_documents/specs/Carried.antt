-- The objects that a document can carry.
use Rattle.std.specs.Prelude.{ℕ, suc, ◌<◌, List, Option, Some, None, option_map}
use Rattle.std.specs.List.{AllByRecursion}
use Rattle.ob_values.specs.declared.value.Value.{Value}
use Rattle.ob_values.specs.declared.value.Value.TheVariants.{Int}
use Rattle.ob_values.specs.Spelled.{printed, SpellsValue}
use Rattle.ob_values.specs.XmlText.{IsXmlText}
use Rattle.ob_object.specs.declared.head.Head.{Head}
use Rattle.ob_object.specs.declared.head.Slot.{Slot}
use Rattle.ob_object.specs.declared.head.Slot.TheVariants.{Absent, Null, Is}
use Rattle.ob_object.specs.Object.{Objects, none, node, Object}
use Rattle.ob_object.specs.WellFormed.{IsWellFormed}

-- its text, if there is one, has XML characters alone
abbrev pub IsTextIfThere : Option (List ℕ) → Type 0
IsTextIfThere None = Unit {0}
IsTextIfThere (Some text) = IsXmlText text

abbrev pub AreTextsIfThere : Option (List (List ℕ)) → Type 0
AreTextsIfThere None = Unit {0}
AreTextsIfThere (Some words) = AllByRecursion IsXmlText words

-- a value in the range of its kind: its printed text spells it
abbrev pub IsWritten : Value → Type 0
IsWritten v = SpellsValue (printed v) v

abbrev pub IsWrittenIfThere : Option Value → Type 0
IsWrittenIfThere None = Unit {0}
IsWrittenIfThere (Some v) = IsWritten v

abbrev pub IsSlotWritten : Slot → Type 0
IsSlotWritten Absent = Unit {0}
IsSlotWritten Null = Unit {0}
IsSlotWritten (Is v) = IsWritten v

-- each text has XML characters alone, and each value is in the range of its kind
pub record IsHeadCarried (h : Head) : Type 0 where
  pub name : IsTextIfThere h.name
  pub href : IsTextIfThere h.href
  pub is : AreTextsIfThere h.is
  pub of : AreTextsIfThere h.of
  pub input : AreTextsIfThere h.input
  pub output : AreTextsIfThere h.output
  pub slot : IsSlotWritten h.slot
  pub display : IsTextIfThere h.facets.display
  pub display_name : IsTextIfThere h.facets.display_name
  pub icon : IsTextIfThere h.facets.icon
  pub max : IsWrittenIfThere h.facets.max
  pub min : IsWrittenIfThere h.facets.min
  pub precision : IsWrittenIfThere (option_map (λ z. Int z) h.facets.precision)
  pub range : IsTextIfThere h.facets.range
  pub tz : IsTextIfThere h.facets.tz
  pub unit : IsTextIfThere h.facets.unit

-- objects that stand in so many others, with all that is in them
abbrev pub IsRowCarried : ℕ → Objects → Type 0
IsRowCarried level none = Unit {0}
IsRowCarried level (node h below rest) = (level < 32) × IsHeadCarried h × IsRowCarried (suc level) below × IsRowCarried level rest

-- an object of at most 32 levels
pub record IsCarried (ns : Option (List ℕ)) (o : Object) : Type 0 where
  pub namespace : IsTextIfThere ns
  pub well_formed : IsWellFormed o
  pub head : IsHeadCarried o.head
  pub row : IsRowCarried 1 o.inner
