use Rattle.ob_http.proofs.PlainLemmas.{token_utf8}
use Rattle.ob_http.proofs.seen.method_text.Goals as goal

pub unreachable-requires : goal.unreachable-requires
unreachable-requires c = c.in-Err.ensures.cases.0 (token_utf8 c.args.method.now c.requires)
