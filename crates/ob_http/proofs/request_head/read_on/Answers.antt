use Rattle.std.proofs.Common.{◌∙◌, sym}
use Rattle.ob_http.proofs.RequestLemmas.{knows_more}
use Rattle.ob_http.proofs.request_head.read_on.Goals as goal

pub returns-else-is_open : goal.returns-else-is_open
returns-else-is_open c = λ front more same knows.
    knows_more c.args.bytes.now front more c.args.known (sym c.is_open.ensures ∙ c.if-is_open.false) same knows
