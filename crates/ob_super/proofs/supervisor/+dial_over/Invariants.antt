use Rattle.ob_super.specs.InHand as in_hand
use Rattle.ob_super.proofs.supervisor.+dial_over.Given as goal

abbrev pub decreases-dial_over : goal.decreases-dial_over
decreases-dial_over g l = in_hand.count_waiting (in_hand.states l.all.now)
