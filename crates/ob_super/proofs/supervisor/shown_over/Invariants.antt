use Rattle.std.proofs.Common.{◌≡◌, drop}
use Rattle.ob_super.specs.InHand as in_hand
use Rattle.ob_super.proofs.supervisor.shown_over.Given as goal

abbrev pub invariant-loop-followed : goal.invariant-loop-followed
invariant-loop-followed g l = in_hand.shown_over l.all l.path ≡ in_hand.shown_over (drop l.followed-index l.all) l.path
