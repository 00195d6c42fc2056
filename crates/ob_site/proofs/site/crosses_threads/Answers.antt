use denote.Param.Send.{sendable}
use Rattle.ob_site.proofs.Crossing.{site_send}
use Rattle.ob_site.proofs.site.crosses_threads.Goals as goal

pub is_send-requires-send-T : goal.is_send-requires-send-T
is_send-requires-send-T c κs = search (sendable, site_send)
