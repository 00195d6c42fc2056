use Rattle.std.proofs.Common.{◌≡◌, sym, subst}
use Rattle.std.specs.Prelude.{IfOk}
use Rattle.ob_super.specs.InHand as in_hand
use Rattle.ob_super.proofs.TreeLemmas.{object_shown}
use Rattle.ob_super.proofs.supervisor.shown_of.Goals as goal

pub returns : goal.returns
returns g c =
    subst (λ y. IfOk c.object_shown.result (λ o. o ≡ y)) (sym (object_shown (in_hand.view c.args.followed.now) c.args.path.now (sym c.if-is_list_path.ensures))) c.object_shown.ensures
