-- Paths of nodes.
use Rattle.std.specs.Prelude.{ℕ, Bool, false, cond, not, ◌||◌, List, Option, Some, None}
use Rattle.std.specs.Str.{bytes_eq}
use Rattle.ob_object.specs.declared.head.Head.{Head}
use Rattle.ob_object.specs.Kinds.{is_ref, is_err}

-- the path of a node: its href, unless it is a ref or an err
abbrev pub node_path : Head → Option (List ℕ)
node_path h = cond (not (is_ref h.kind || is_err h.kind)) h.href None

-- whether a path is that of a node, which may have none
abbrev pub is_path : List ℕ → Option (List ℕ) → Bool
is_path path None = false
is_path path (Some p) = bytes_eq p path
