-- Names that children may have.
use Rattle.std.specs.Prelude.{ℕ, Bool, true, not, ◌&&◌, nat_le, List, [], ◌∷◌, ◌++◌, length}
use Rattle.ob_values.specs.XmlText.{is_printable}
use Rattle.ob_object.specs.Object.{Object}
use Rattle.ob_object.specs.WellFormed.{is_taken}

-- printable ASCII of 1 to 255 bytes
abbrev pub is_name : List ℕ → Bool
is_name n = is_printable n && (nat_le 1 (length n) && nat_le (length n) 255)

-- behind the first objects, none of the others has the name of one before it
abbrev pub are_new : List Object → List Object → Bool
are_new before [] = true
are_new before (o ∷ os) = not (is_taken o.head.name before) && are_new (before ++ o ∷ []) os
