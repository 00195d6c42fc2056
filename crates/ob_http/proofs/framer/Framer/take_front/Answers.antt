use Rattle.std.proofs.Common.{ap, ◌∙◌, Ok}
use Rattle.ob_http.proofs.RequestsLemmas.{seen_method}
use Rattle.ob_http.proofs.framer.Framer.take_front.Goals as goal

pub copy_request-requires : goal.copy_request-requires
copy_request-requires c = seen_method _ c.look.result c.in-Some.seen (c.in_ok-seen.was ∙ ap Ok c.in-Some.is) c.look.ensures.front
