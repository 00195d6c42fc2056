-- The writable points of a site, and the values that a Put lets through to what it shows. Source: oBIX 1.1, chapter 13 (Points),
-- section 4.2 (facets); the limit of a text is this profile's own.
use Rattle.std.specs.Prelude.{Bool, false, not, cond, Option, None, is_some, option_map, unwrap_or}
use Rattle.ob_values.specs.declared.value.Value.{Value}
use Rattle.ob_object.specs.declared.head.Slot.TheVariants.{Is}
use Rattle.ob_object.specs.Object.{Object}
use Rattle.ob_site_rules.specs.Build.{Path, leaf}
use Rattle.ob_site_rules.specs.Shown.{node_of, shown}
use Rattle.ob_site_rules.specs.declared.plan.Plan.{Plan}
use Rattle.ob_site_rules.specs.State.{State, is_among}
use Rattle.ob_site_rules.specs.Writes.{slot_fault}

-- the own object of the writable point at a path, without its children; none at every other path
abbrev pub point_at : Plan → State → Path → Option Object
point_at plan s p = cond (is_among p plan.points) (option_map (λ o. leaf o.head) (node_of p s.tree)) None

-- nothing is wrong with a value for an object that is shown
abbrev pub suits : Plan → State → Value → Object → Bool
suits plan s v o = not (is_some (slot_fault plan s o.head (Is v)))

-- A Put lets a value through to what is shown at a path: it is of its kind, no text of more than 4,096 bytes, not below its min,
-- not above its max, and, of an enum, the name of a child of the object that its range names, if it names one. Where nothing is
-- shown it lets none through.
abbrev pub passes : Plan → State → Path → Value → Bool
passes plan s p v = unwrap_or (option_map (suits plan s v) (shown plan s p)) false
