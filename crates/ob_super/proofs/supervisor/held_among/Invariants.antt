use Rattle.std.proofs.Common.{◌≡◌, drop}
use Rattle.ob_super.specs.Trees.{entry_in}
use Rattle.ob_super.specs.InHand as in_hand
use Rattle.ob_super.proofs.PlaceLemmas.{at_in}
use Rattle.ob_super.proofs.supervisor.held_among.Given as goal

abbrev pub invariant-loop-place : goal.invariant-loop-place
invariant-loop-place l =
    entry_in (in_hand.upstream l.upstream) l.mirror.held l.path ≡ at_in (in_hand.upstream l.upstream) l.mirror.held l.path l.place (drop l.place l.upstream.hrefs.items)
