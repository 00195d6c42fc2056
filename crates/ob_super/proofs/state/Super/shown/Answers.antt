use Rattle.std.proofs.Common.{◌≡◌, Option, false, sym, subst, ◌∙◌}
use Rattle.std.specs.Prelude.{IfOk, bytes_eq}
use Rattle.ob_client.proofs.TableLemmas.{bytes_eq_sym}
use Rattle.ob_object.specs.Object.{Object}
use Rattle.ob_super.specs.Trees.{root_path}
use Rattle.ob_super.specs.InHand as in_hand
use Rattle.ob_super.proofs.TreeLemmas.{below_shown}
use Rattle.ob_super.proofs.state.Super.shown.Goals as goal

pub returns : goal.returns
returns g c =
    let path = c.args.path.now in
    let apart : bytes_eq root_path path ≡ false = bytes_eq_sym root_path path ∙ sym c.if-eq.ensures in
    subst (λ (x : Option Object). IfOk c.shown_over.result (λ shown. shown ≡ x)) (sym (below_shown (in_hand.views c.args.self.now.followed.items) path apart))
    (subst (λ fs. IfOk c.shown_over.result (λ shown. shown ≡ in_hand.shown_over fs path)) c.deref-2.ensures.value c.shown_over.ensures)
