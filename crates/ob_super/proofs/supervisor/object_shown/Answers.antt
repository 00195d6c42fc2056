use Rattle.std.proofs.Common.{sym, ap, ◌∙◌}
use Rattle.std.specs.Prelude.{option_map}
use Rattle.ob_super.specs.Trees.{Entry, entry_in}
use Rattle.ob_super.specs.InHand as in_hand
use Rattle.ob_super.proofs.PlaceLemmas.{at_empty}
use Rattle.ob_super.proofs.supervisor.object_shown.Goals as goal

pub returns-in_default : goal.returns-in_default
returns-in_default g c =
    let u = in_hand.upstream c.args.followed.now.upstream in
    sym (ap (option_map (λ (e : Entry). e.object)) (ap (λ l. entry_in u (in_hand.held_now l) c.args.path.now) c.in_default.is ∙ at_empty u c.args.path.now 0 u.hrefs))
