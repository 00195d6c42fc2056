use Rattle.ob_http.proofs.PlainLemmas.{token_printable}
use Rattle.ob_http.proofs.seen.copy_request.Goals as goal

pub from_ascii-requires : goal.from_ascii-requires
from_ascii-requires c = token_printable c.args.seen.now.method.now c.requires
