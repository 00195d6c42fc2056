-- What of an object is asked when a value is to be written to it. Source: oBIX 1.1, chapter 10 (Networking: Write), section 4.2
-- (facets).
use Rattle.ob_object.specs.declared.head.Head.{Head}
use Rattle.ob_object.specs.Facets.{no_facets}
use Rattle.ob_object.specs.Object.{Object, empty_head}
use Rattle.ob_site_rules.specs.Build.{leaf}

-- the kind, the value, its least and its greatest, its range, and whether it is writable
abbrev pub target_head : Head → Head
target_head h = record (empty_head h.kind) {
  slot = h.slot;
  facets = record no_facets { min = h.facets.min; max = h.facets.max; range = h.facets.range; writable = h.facets.writable };
}

-- an object with these alone, and nothing in it
abbrev pub target : Object → Object
target o = leaf (target_head o.head)
