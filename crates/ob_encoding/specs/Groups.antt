-- The attributes, group by group, as they are written.
use Rattle.std.specs.Prelude.{ℕ, List, [], ◌∷◌, Option, option_map, codes}
use Rattle.ob_values.specs.declared.value.Value.TheVariants.{Bool as Truth, Int}
use Rattle.ob_values.specs.Spelled.{printed}
use Rattle.ob_object.specs.declared.facet.Facets.{Facets}
use Rattle.ob_object.specs.declared.head.Head.{Head}
use Rattle.ob_object.specs.declared.head.Slot.{Slot}
use Rattle.ob_encoding.specs.Names.{status_word}
use Rattle.ob_encoding.specs.Canonical.{joined, null_text, val_text}

abbrev pub names_part : Head → List (List ℕ × Option (List ℕ))
names_part h = (codes "name", h.name) ∷ (codes "href", h.href) ∷ (codes "is", option_map joined h.is) ∷ []

abbrev pub slot_part : Slot → List (List ℕ × Option (List ℕ))
slot_part s = (codes "null", null_text s) ∷ (codes "val", val_text s) ∷ []

abbrev pub lists_part : Head → List (List ℕ × Option (List ℕ))
lists_part h = (codes "of", option_map joined h.of) ∷ (codes "in", option_map joined h.input) ∷ (codes "out", option_map joined h.output) ∷ []

abbrev pub labels_part : Facets → List (List ℕ × Option (List ℕ))
labels_part f = (codes "display", f.display) ∷ (codes "displayName", f.display_name) ∷ (codes "icon", f.icon) ∷ []

abbrev pub limits_part : Facets → List (List ℕ × Option (List ℕ))
limits_part f = (codes "max", option_map printed f.max) ∷ (codes "min", option_map printed f.min) ∷ (codes "precision", option_map (λ n. printed (Int n)) f.precision) ∷ []

abbrev pub meaning_part : Facets → List (List ℕ × Option (List ℕ))
meaning_part f =
    (codes "range", f.range)
    ∷ (codes "status", option_map status_word f.status)
    ∷ (codes "tz", f.tz)
    ∷ (codes "unit", f.unit)
    ∷ (codes "writable", option_map (λ b. printed (Truth b)) f.writable)
    ∷ []
