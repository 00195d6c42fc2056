use Rattle.std.proofs.Common.{◌≡◌, ℕ, List, map, take, is_some}
use Rattle.ob_site_rules.specs.State.{at}
use Rattle.ob_plain_state.specs.States.{entry_of}
use Rattle.ob_site_file.specs.Sizes.{has_text}
use Rattle.ob_site_file.proofs.derived.paths_of.Given as goal

abbrev pub invariant-loop-entry : goal.invariant-loop-entry
invariant-loop-entry l = (t : List ℕ) → has_text l.set t ≡ is_some (at t (map entry_of (take l.entry-index l.logs)))
