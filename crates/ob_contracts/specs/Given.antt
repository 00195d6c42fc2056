-- What the sources of an object give to its head.
use Rattle.std.specs.Prelude.{cond, List, Option, None, find, option_and_then}
use Rattle.ob_object.specs.declared.facet.Facets.{Facets}
use Rattle.ob_object.specs.declared.head.Head.{Head}
use Rattle.ob_object.specs.Object.{Object, none, empty_head}
use Rattle.ob_contracts.specs.Inherit.{inherited_head}
use Rattle.ob_contracts.specs.Parts.{has_part, gives}
use Rattle.ob_contracts.specs.declared.reading.Part.{Part}
use Rattle.ob_contracts.specs.declared.reading.Part.TheVariants as part

-- the first source that gives a part, where the object lacks it
abbrev pub giver_in : Part → Object → List Object → Option Object
giver_in p o ss = cond (has_part p o) None (find (gives o.head.kind p) ss)

-- what that source has of the part
abbrev pub given_part : {A : Type 0} → (Object → Option A) → Part → Object → List Object → Option A
given_part read p o ss = option_and_then read (giver_in p o ss)

abbrev pub given_facets : Object → List Object → Facets
given_facets o ss = record {
  display = given_part (λ s. s.head.facets.display) part.Display o ss;
  display_name = given_part (λ s. s.head.facets.display_name) part.DisplayName o ss;
  icon = given_part (λ s. s.head.facets.icon) part.Icon o ss;
  min = given_part (λ s. s.head.facets.min) part.Min o ss;
  max = given_part (λ s. s.head.facets.max) part.Max o ss;
  precision = given_part (λ s. s.head.facets.precision) part.Precision o ss;
  range = given_part (λ s. s.head.facets.range) part.Range o ss;
  status = given_part (λ s. s.head.facets.status) part.Status o ss;
  tz = given_part (λ s. s.head.facets.tz) part.Tz o ss;
  unit = given_part (λ s. s.head.facets.unit) part.Unit o ss;
  writable = given_part (λ s. s.head.facets.writable) part.Writable o ss;
}

-- all but a slot
abbrev pub given_head : Object → List Object → Head
given_head o ss = record (empty_head o.head.kind) {
  of = given_part (λ s. s.head.of) part.Of o ss;
  input = given_part (λ s. s.head.input) part.Input o ss;
  output = given_part (λ s. s.head.output) part.Output o ss;
  facets = given_facets o ss;
}

-- an object's head with all that it inherits, alone
abbrev pub headed : Object → List Object → Object
headed o ss = record { head = inherited_head o.head ss; inner = none }
