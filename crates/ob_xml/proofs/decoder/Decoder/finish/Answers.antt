use Rattle.ob_xml.proofs.Feeding.{ends_finishes}
use Rattle.ob_xml.proofs.decoder.Decoder.finish.Goals as goal

pub returns-in-None-clause-exact : goal.returns-in-None-clause-exact
returns-in-None-clause-exact c = λ bytes h. ends_finishes bytes c.end.result h.1.short (c.end.ensures bytes h.1)
