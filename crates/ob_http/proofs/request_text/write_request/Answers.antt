use Rattle.std.proofs.Common.{◌∙◌, codes}
use Rattle.ob_http.specs.Asking.{verb_text, body_fields}
use Rattle.ob_http.proofs.AnswerLemmas.{request_parts}
use Rattle.ob_http.proofs.request_text.write_request.Goals as goal

pub returns : goal.returns
returns c =
    request_parts (verb_text c.args.verb) c.verb_bytes.result.now (codes " ") c.args.target.now c.as_bytes.result.now (codes " HTTP/1.1\r\nHost: ")
    c.args.host.now c.as_bytes-2.result.now (codes "\r\n") (body_fields c.args.verb c.args.body.now) _ _ _ _
    c.in_ok-text.ensures.items c.in_ok-push_parts.ensures.ok c.in_ok-push_parts-2.ensures.ok c.in_ok-push_body.ensures
    c.verb_bytes.ensures (c.as_bytes.ensures.value ∙ c.as_str.ensures.value) (c.as_bytes-2.ensures.value ∙ c.as_str-2.ensures.value)
