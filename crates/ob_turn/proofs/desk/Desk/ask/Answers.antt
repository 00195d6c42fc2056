use Rattle.std.proofs.Common.{◌≡◌, ◌++◌, ◌∷◌, [], ◌<◌, length, drop, true, refl, ap, ◌∙◌, arith}
use Rattle.ob_turn.specs.Callers.{own, calls_of}
use Rattle.ob_machine.specs.History.{entry}
use Rattle.ob_turn.specs.Standing.{mine}
use Rattle.ob_turn.specs.Turn.{known}
use Rattle.ob_turn.proofs.Histories.{mine_more}
use Rattle.ob_turn.proofs.desk.Desk.ask.Goals as goal

pub returns-clause-calls : goal.returns-clause-calls
returns-clause-calls g c =
    let v = c.pass.inside.seat.me.0 in
    let t = c.take_turn.ensures.took in
    let q = c.args.request.now in let at = c.args.moment in let answer = c.step-answer.result in
    let now : c.step-answer.new.seat.me.0 ≡ known v.numbers v.since (v.seen ++ t.between) true v.pasts =
    c.step-answer.ensures.same.2 ∙ ap (λ m. m.0) t.now in
    let some_numbers : 0 < length v.numbers = omega (arith, c.pass.invariant.3, c.pass.invariant.4) in
    ap (λ m. calls_of (own m.0.numbers) (drop m.0.since m.0.seen)) c.end_turn.ensures.ended
    ∙ (ap (λ a. calls_of (own a.numbers) (drop a.since (a.seen ++ entry (own a.numbers) q at answer ∷ []))) now
    ∙ (mine_more v.numbers v.since v.seen t.between (entry (own v.numbers) q at answer) some_numbers c.pass.invariant.5 t.others refl
    ∙ ap (λ z. mine z ++ entry (own z.numbers) q at answer ∷ []) c.pass.view_is))
