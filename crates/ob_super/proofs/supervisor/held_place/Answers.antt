use Rattle.std.proofs.Common.{ap, ◌∙◌}
use Rattle.ob_super.specs.Trees.{entry_in}
use Rattle.ob_super.specs.InHand as in_hand
use Rattle.ob_super.proofs.PlaceLemmas.{at_empty}
use Rattle.ob_super.proofs.supervisor.held_place.Goals as goal

pub returns-in_default-clause-finds : goal.returns-in_default-clause-finds
returns-in_default-clause-finds g c =
    let u = in_hand.upstream c.args.followed.now.upstream in
    ap (λ l. entry_in u (in_hand.held_now l) c.args.path.now) c.in_default.is ∙ at_empty u c.args.path.now 0 u.hrefs
