use Rattle.std.proofs.Common.{ap, ◌∙◌, Err}
use Rattle.ob_http.proofs.RequestLemmas.{refused_by}
use Rattle.ob_http.proofs.request_head.is_refused.Goals as goal

pub returns-in-Err : goal.returns-in-Err
returns-in-Err c =
    refused_by c.args.bytes.now c.in-Err.field-0 c.ends_in_target.result c.requires c.in-Err.ensures.invalid
    (λ same. c.parse_request.ensures.too_many (c.in-Err.is ∙ ap Err same)) c.ends_in_target.ensures
