use Rattle.std.proofs.Common.{◌≡◌, drop}
use Rattle.ob_super.specs.Dialling.{none_failed}
use Rattle.ob_super.specs.InHand as in_hand
use Rattle.ob_super.proofs.supervisor.none_failed.Given as goal

abbrev pub invariant-loop-followed : goal.invariant-loop-followed
invariant-loop-followed g l = none_failed l.number (in_hand.states (drop l.followed-index l.all)) ≡ none_failed l.number (in_hand.states l.all)
