use Rattle.ob_site_laws.proofs.Seen.{keeps_watches}
use Rattle.ob_site.proofs.serving.serve_alone.Goals as goal

pub returns-clause-serves : goal.returns-clause-serves
returns-clause-serves g c =
    let served = c.serve_alone.ensures.serves in
    (served, keeps_watches c.args.site c.sound_law.ensures served.calls served.legal)
