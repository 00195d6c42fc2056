-- What a path says of watches, as the definitions of the site have it.
use Rattle.std.specs.Prelude.{◌≡◌, ℕ, ◌≤◌, ◌^◌, codes, List, [], ◌∷◌, Option, Some, None, option_and_then}
use Rattle.ob_site_rules.specs.Build.{Text}
use Rattle.ob_site_rules.specs.declared.watch_part.WatchPart.{WatchPart}
use Rattle.ob_site_rules.specs.declared.watch_part.WatchPart.TheVariants.{PollChanges, PollRefresh, Delete}
use Rattle.ob_site_rules.specs.Paths.{both, before_slash, behind_slash, number_spelled, part_named}
use Rattle.ob_requests.specs.declared.paths.Spelled.{Spelled}
use Rattle.ob_requests.specs.declared.paths.Spelled.TheVariants as spelled
use Rattle.ob_requests.specs.declared.paths.OfWatch.{OfWatch}
use Rattle.ob_requests.specs.declared.paths.OfWatch.TheVariants as path

-- the number that was meant, or one that no watch has
abbrev pub IsSpelled : Spelled → Option ℕ → Type 0
IsSpelled spelled.No meant = meant ≡ None
IsSpelled (spelled.Below n) meant = meant ≡ Some n
IsSpelled spelled.Beyond meant = (n : ℕ) × (2 ^ 64 ≤ n) × (meant ≡ Some n)

-- the number and the part that were meant, or a number that no watch has
abbrev pub IsOfWatch : OfWatch → Option (ℕ × WatchPart) → Type 0
IsOfWatch path.No meant = meant ≡ None
IsOfWatch (path.Part n part) meant = meant ≡ Some (n, part)
IsOfWatch path.Beyond meant = (n : ℕ) × (part : WatchPart) × (2 ^ 64 ≤ n) × (meant ≡ Some (n, part))

-- the number and the part, from what is behind the path of all watches
abbrev pub watch_behind : Text → Option (ℕ × WatchPart)
watch_behind t = both (number_spelled (before_slash t)) (option_and_then part_named (behind_slash t))

-- the ops that poll or end a watch, each under its text
abbrev pub late_parts : List (Text × WatchPart)
late_parts = (codes "pollChanges", PollChanges) ∷ (codes "pollRefresh", PollRefresh) ∷ (codes "delete", Delete) ∷ []
