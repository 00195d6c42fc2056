-- What a value has to fit.
use Rattle.std.specs.Prelude.{◌≡◌, ℕ, true, IsTrue, List, Option, Some, None}
use Rattle.ob_object.specs.declared.head.Slot.{Slot}
use Rattle.ob_object.specs.Fits.{fits_slot}
use Rattle.ob_object.specs.Object.{Objects, none, node}
use Rattle.ob_object.specs.Paths.{is_path, node_path}
use Rattle.ob_alarms.specs.Limits.{Takes}
use Rattle.ob_alarms.specs.declared.rule.Rule.{Rule}
use Rattle.ob_site_rules.specs.Build.{Path}
use Rattle.ob_site_rules.specs.Writes.{number_in}

-- each node at a path takes the slot
abbrev pub NodesTake : Path → Slot → Objects → Type 0
NodesTake p slot none = Unit {0}
NodesTake p slot (node h inner rest) =
    (is_path p (node_path h) ≡ true → IsTrue (fits_slot h.kind slot)) × NodesTake p slot inner × NodesTake p slot rest

-- the rule of a node, if it has one, takes the number of a slot
abbrev pub TakesIfRule : List Rule → Option ℕ → Slot → Type 0
TakesIfRule rules None slot = Unit {0}
TakesIfRule rules (Some rule) slot = Takes rules rule (number_in slot)
