-- The status among lent facets.
use Rattle.std.specs.Prelude.{Option, Some, None}
use Rattle.ob_object.specs.declared.status.Status.{Status}
use Rattle.ob_object.specs.declared.facet.FacetRef.{FacetRef}
use Rattle.ob_object.specs.declared.facet.FacetRef.TheVariants as lent

-- the status that a facet is, if it is one
abbrev pub status_in : Option FacetRef → Option Status
status_in None = None
status_in (Some (lent.Limit v)) = None
status_in (Some (lent.Number n)) = None
status_in (Some (lent.Word s)) = Some s
status_in (Some (lent.Truth b)) = None
status_in (Some (lent.Words t)) = None
