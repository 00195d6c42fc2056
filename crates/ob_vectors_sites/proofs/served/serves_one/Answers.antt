use denote.Param.Send.{sendable}
use Rattle.ob_site.proofs.Crossing.{site_send}
use Rattle.ob_vectors_sites.proofs.served.serves_one.Goals as goal

pub serve-workers-requires-send-M : goal.serve-workers-requires-send-M
serve-workers-requires-send-M g c κs = search (sendable, site_send)
