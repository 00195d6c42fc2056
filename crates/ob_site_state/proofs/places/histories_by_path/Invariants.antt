use Rattle.std.proofs.Common.{◌≡◌, ◌-◌, length}
use Rattle.std.specs.BTreeMap.{get_by_text}
use Rattle.ob_site_rules.specs.Build.{Path}
use Rattle.ob_site_state.specs.Roles.{stands_at, place_from}
use Rattle.ob_site_state.proofs.places.histories_by_path.Given as goal

abbrev pub invariant-loop-done : goal.invariant-loop-done
invariant-loop-done l = (p : Path) → get_by_text l.places p ≡ place_from (stands_at p) (length l.histories - l.done) l.histories
