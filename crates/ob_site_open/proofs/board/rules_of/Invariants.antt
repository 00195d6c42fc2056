use Rattle.std.proofs.Common.{◌≡◌, ◌++◌, drop}
use Rattle.ob_site_rules.specs.State.{numbered_from}
use Rattle.ob_site_open.proofs.board.rules_of.Given as goal

abbrev pub invariant-loop-place : goal.invariant-loop-place
invariant-loop-place l = l.made.items ++ numbered_from l.place (drop l.place l.rules) ≡ numbered_from 0 l.rules
