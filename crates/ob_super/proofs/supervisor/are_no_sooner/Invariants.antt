use Rattle.std.proofs.Common.{◌≡◌, drop}
use Rattle.std.specs.List.{list_all}
use Rattle.ob_super.specs.Dialling.{is_no_sooner}
use Rattle.ob_super.specs.InHand as in_hand
use Rattle.ob_super.proofs.supervisor.are_no_sooner.Given as goal

abbrev pub invariant-loop-other : goal.invariant-loop-other
invariant-loop-other g l =
    list_all (is_no_sooner (in_hand.state l.followed)) (in_hand.states (drop l.other-index l.behind))
    ≡ list_all (is_no_sooner (in_hand.state l.followed)) (in_hand.states l.behind)
