use Rattle.std.proofs.Common.{◌∙◌}
use denote.Param.Send.{sendable}
use Rattle.ob_kept.proofs.Crossing.{shared_send}
use Rattle.ob_kept.proofs.FrontLemmas.{keeps_laws}
use Rattle.ob_kept.proofs.serving.serve_port.Goals as goal

pub serve_port-machine-requires-send-M : goal.serve_port-machine-requires-send-M
serve_port-machine-requires-send-M g c κs within = search (sendable, shared_send)

pub returns-clause-serves : goal.returns-clause-serves
returns-clause-serves g c =
    let served = c.serve_port-machine.ensures.serves in
    let is = c.into_kept.ensures ∙ served.2 in
    (served.0, served.1, keeps_laws c.args.kept served.0 _ c.sound_law.ensures served.1.legal is, is)
