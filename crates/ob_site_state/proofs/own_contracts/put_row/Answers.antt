use Rattle.std.proofs.Common.{◌≡◌, Some, sym, subst}
use Rattle.std.proofs.lemmas.Result.{IfOk-weaker}
use Rattle.ob_object.specs.Object.{Object}
use Rattle.ob_contracts.specs.Ties.{HasOneMore}
use Rattle.ob_tree.specs.Shown.{part_at}
use Rattle.ob_site_state.proofs.own_contracts.put_row.Goals as goal

pub returns : goal.returns
returns c =
    IfOk-weaker c.put.result _ _
    (λ _ has. λ x at.
    let here : Some c.in_ok-own.own ≡ part_at c.args.node.number c.args.tree.now.root = c.in_ok-own.ensures in
    let same : c.in_ok-own.own ≡ x = cc in subst (λ (o : Object). HasOneMore c.args.library.now o c.args.ties.now c.put.new.self) same has) c.put.ensures.ok
