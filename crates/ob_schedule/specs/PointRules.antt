-- The writable points of a site, as a file of schedules is judged by them.
use Rattle.std.specs.Prelude.{ℕ, Bool, List, Option}
use Rattle.ob_values.specs.declared.value.Value.{Value}
use Rattle.ob_object.specs.declared.kind.Kind.{Kind}

abbrev pub Text : Type 0
Text = List ℕ

-- The kind of the values of the writable point at a path, and none for every other path; and whether a Put lets a value through
-- to it.
pub record PointRules : Type 0 where
  pub kind_at : Text → Option Kind
  pub lets : Text → Value → Bool
