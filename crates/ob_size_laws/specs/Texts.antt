-- How long the canonical text of an object is beside bytes that spell it.
use Rattle.std.specs.Prelude.{ℕ, ◌*◌, ◌≤◌, List, length, Option, None}
use Rattle.ob_object.specs.Object.{Object}
use Rattle.ob_encoding.specs.Canonical.{canonical_text}
use Rattle.ob_documents.specs.Spelling.{Spells}

-- at most sixteen times as long: a reference may be longer than what it stands for, and a number be printed with more digits
abbrev pub TextIsShort : Type 0
TextIsShort = (bytes : List ℕ) (ns : Option (List ℕ)) (o : Object) → Spells bytes ns o → length (canonical_text None o) ≤ 16 * length bytes
