use Rattle.std.proofs.Common.{List, ℕ, ap, sym, subst, ◌∙◌}
use Rattle.std.specs.Prelude.{Err}
use Rattle.ob_console.specs.Acks.{FindsTarget, leads_to, op_of}
use Rattle.ob_console.specs.InHand.{lines_of}
use Rattle.ob_console.proofs.AckLemmas.{answered_as, at_target, refused}
use Rattle.ob_console.proofs.ack_call.acknowledge.Goals as goal

pub returns-in-Ok : goal.returns-in-Ok
returns-in-Ok g c =
    let lines = lines_of c.args.board.now in
    at_target _ c.in-Ok.target c.args.user.now _ _ c.answer_as.result (ap (λ (t : List ℕ). leads_to c.args.base.now (op_of lines t)) (sym c.as_str.ensures.value) ∙ c.in-Ok.ensures)
    (answered_as c.in-Ok.target c.args.user.now _ _ c.acknowledge_at.result c.answer_as.result c.acknowledge_at.ensures c.answer_as.ensures)

pub returns-in-Err : goal.returns-in-Err
returns-in-Err g c =
    let lines = lines_of c.args.board.now in
    refused _ c.args.user.now _ c.in-Err.fault (subst (λ (t : List ℕ). FindsTarget (leads_to c.args.base.now (op_of lines t)) (Err c.in-Err.fault)) c.as_str.ensures.value c.in-Err.ensures)
