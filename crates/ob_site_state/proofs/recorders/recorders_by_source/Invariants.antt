use Rattle.std.proofs.Common.{◌≡◌, take}
use Rattle.ob_site_rules.specs.Build.{Path}
use Rattle.ob_site_state.specs.Roles.{all_places, is_of, places_at}
use Rattle.ob_site_state.proofs.recorders.recorders_by_source.Given as goal

abbrev pub invariant-loop-place : goal.invariant-loop-place
invariant-loop-place l = (p : Path) → places_at l.places p ≡ all_places (is_of p) (take l.place l.histories)
