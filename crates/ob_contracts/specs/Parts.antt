-- The parts that an object has, and those that it may take from a source.
use Rattle.std.specs.Prelude.{Bool, true, ◌&&◌, is_some}
use Rattle.ob_object.specs.declared.facet.Facet.{Facet}
use Rattle.ob_object.specs.declared.facet.Facet.TheVariants as facet
use Rattle.ob_object.specs.declared.kind.Kind.{Kind}
use Rattle.ob_object.specs.Kinds.{same_kind, has_of, has_input, has_output}
use Rattle.ob_object.specs.Object.{Object, children}
use Rattle.ob_object.specs.WellFormed.{named}
use Rattle.ob_contracts.specs.Inherit.{given}
use Rattle.ob_contracts.specs.declared.reading.Part.{Part}
use Rattle.ob_contracts.specs.declared.reading.Part.TheVariants as part

-- the part that a facet is
abbrev pub part_of : Facet → Part
part_of facet.Display = part.Display
part_of facet.DisplayName = part.DisplayName
part_of facet.Icon = part.Icon
part_of facet.Min = part.Min
part_of facet.Max = part.Max
part_of facet.Precision = part.Precision
part_of facet.Range = part.Range
part_of facet.Status = part.Status
part_of facet.Tz = part.Tz
part_of facet.Unit = part.Unit
part_of facet.Writable = part.Writable

-- whether an object has a part itself
abbrev pub has_part : Part → Object → Bool
has_part part.Of o = is_some o.head.of
has_part part.Input o = is_some o.head.input
has_part part.Output o = is_some o.head.output
has_part part.Slot o = is_some (given o.head.slot)
has_part part.Display o = is_some o.head.facets.display
has_part part.DisplayName o = is_some o.head.facets.display_name
has_part part.Icon o = is_some o.head.facets.icon
has_part part.Min o = is_some o.head.facets.min
has_part part.Max o = is_some o.head.facets.max
has_part part.Precision o = is_some o.head.facets.precision
has_part part.Range o = is_some o.head.facets.range
has_part part.Status o = is_some o.head.facets.status
has_part part.Tz o = is_some o.head.facets.tz
has_part part.Unit o = is_some o.head.facets.unit
has_part part.Writable o = is_some o.head.facets.writable
has_part (part.Child n) o = is_some (named n.now (children o))

-- whether an object of a kind may take a part from a source
abbrev pub may_take : Kind → Part → Object → Bool
may_take k part.Of s = has_of k
may_take k part.Input s = has_input k
may_take k part.Output s = has_output k
may_take k part.Slot s = same_kind s.head.kind k
may_take k part.Display s = true
may_take k part.DisplayName s = true
may_take k part.Icon s = true
may_take k part.Min s = same_kind s.head.kind k
may_take k part.Max s = same_kind s.head.kind k
may_take k part.Precision s = true
may_take k part.Range s = true
may_take k part.Status s = true
may_take k part.Tz s = true
may_take k part.Unit s = true
may_take k part.Writable s = true
may_take k (part.Child n) s = true

abbrev pub gives : Kind → Part → Object → Bool
gives k p s = may_take k p s && has_part p s
