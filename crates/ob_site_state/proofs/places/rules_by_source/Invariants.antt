use Rattle.std.proofs.Common.{◌≡◌, ◌-◌, length}
use Rattle.std.specs.BTreeMap.{get_by_text}
use Rattle.ob_site_rules.specs.Build.{Path}
use Rattle.ob_site_state.specs.Roles.{has_source, place_from}
use Rattle.ob_site_state.proofs.places.rules_by_source.Given as goal

abbrev pub invariant-loop-done : goal.invariant-loop-done
invariant-loop-done l =
    (p : Path) → get_by_text l.places p ≡ place_from (has_source p) (length l.rules - l.done) l.rules
