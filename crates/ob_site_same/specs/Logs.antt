-- The logs of two states at one place.
use Rattle.std.specs.Prelude.{◌≡◌, ℕ, List, option_map, slice_get}
use Rattle.ob_site_rules.specs.Build.{Path}
use Rattle.ob_site_rules.specs.State.{Log}

-- the logs at this place are the same, under whatever paths
abbrev pub SameLogAt : List (Path × Log) → List (Path × Log) → ℕ → Type 0
SameLogAt ls others place = option_map (λ l. l.1) (slice_get ls place) ≡ option_map (λ l. l.1) (slice_get others place)
