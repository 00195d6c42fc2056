use Rattle.std.proofs.Common.{◌∙◌, codes}
use Rattle.ob_http.proofs.AnswerLemmas.{sized_parts}
use Rattle.ob_http.proofs.request_text.push_sized_body.Goals as goal

pub returns : goal.returns
returns c =
    sized_parts c.args.text.now.items (codes "Content-Type: text/xml\r\nContent-Length: ") c.as_bytes.result.now _ (codes "\r\n\r\n") c.args.body.now _ _
    c.in_ok-push_parts.ensures.ok c.in_ok-extend_from_slice.ensures.items (c.as_bytes.ensures.value ∙ c.in_ok-length.ensures)
