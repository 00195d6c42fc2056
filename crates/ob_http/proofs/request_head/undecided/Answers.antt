use Rattle.std.proofs.Common.{refl}
use Rattle.ob_http.specs.Message.{long}
use Rattle.ob_http.proofs.request_head.undecided.Goals as goal

pub returns-else-bytes-lt-HEAD_LIMIT : goal.returns-else-bytes-lt-HEAD_LIMIT
returns-else-bytes-lt-HEAD_LIMIT c = (long, (c.requires, c.if-bytes-lt-HEAD_LIMIT.false), refl)
