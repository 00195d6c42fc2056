use Rattle.std.proofs.Common.{◌∙◌, ◌++◌, ◌∷◌, [], codes}
use Rattle.std.specs.List.{concat}
use Rattle.ob_http.proofs.AnswerLemmas.{nine_parts, on_ok}
use Rattle.ob_http.proofs.answer.push_answer.Goals as goal

pub returns-clause-ok : goal.returns-clause-ok
returns-clause-ok c = λ number. on_ok c.push_parts-3.result (λ third.
    let type = c.type_bytes.ensures c.args.body.now c.is_empty.ensures in
    nine_parts c.args.text.now.items c.status_bytes.result.now c.type_bytes.result.now (codes "Content-Length: ") c.args.digits.now (codes "\r\n")
    c.allow_bytes.result.now c.close_bytes.result.now (codes "\r\n") c.args.body.now _ _ _
    c.in_ok-push_parts.ensures.ok c.in_ok-push_parts-2.ensures.ok third
    ∙ (λ i. c.args.text.now.items ++ concat (c.status_bytes.ensures i ∷ type i ∷ codes "Content-Length: " ∷ number i ∷ codes "\r\n" ∷ c.allow_bytes.ensures i
    ∷ c.close_bytes.ensures i ∷ codes "\r\n" ∷ c.args.body.now ∷ []))) c.push_parts-3.ensures.ok
