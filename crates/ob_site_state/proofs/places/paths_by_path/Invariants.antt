use Rattle.std.proofs.Common.{◌≡◌, ◌-◌, length}
use Rattle.std.specs.BTreeMap.{get_by_text}
use Rattle.ob_site_rules.specs.Build.{Path}
use Rattle.ob_site_state.specs.Roles.{is_at, place_from}
use Rattle.ob_site_state.proofs.places.paths_by_path.Given as goal

abbrev pub invariant-loop-done : goal.invariant-loop-done
invariant-loop-done l = (p : Path) → get_by_text l.places p ≡ place_from (is_at p) (length l.paths - l.done) l.paths
