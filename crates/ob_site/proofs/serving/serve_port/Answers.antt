use denote.Param.Send.{sendable}
use Rattle.ob_site_laws.proofs.Seen.{keeps_watches}
use Rattle.ob_site.proofs.Crossing.{site_send}
use Rattle.ob_site.proofs.serving.serve_port.Goals as goal

pub serve_port-requires-send-M : goal.serve_port-requires-send-M
serve_port-requires-send-M g c κs within = search (sendable, site_send)

pub returns-clause-serves : goal.returns-clause-serves
returns-clause-serves g c =
    let served = c.serve_port.ensures.serves in
    (served.0, served.1, keeps_watches c.args.site c.sound_law.ensures served.0 served.1.legal, served.2)
