-- The node in which a path can be derived: what stands in front of the path's last slash.
use Rattle.std.specs.Prelude.{◌≡◌, Bool, false, ◌==◌, ◌∷◌, ◌++◌, Option, Some, None}
use Rattle.std.specs.List.{list_any}
use Rattle.ob_site_rules.specs.Build.{Path}

abbrev pub has_slash : Path → Bool
has_slash p = list_any (λ c. c == 47) p

-- The path up to its last slash, without that slash; none where it has none.
abbrev pub IsParent : Path → Option Path → Type 0
IsParent p None = has_slash p ≡ false
IsParent p (Some front) = (name : Path) × (p ≡ front ++ 47 ∷ name) × (has_slash name ≡ false)
