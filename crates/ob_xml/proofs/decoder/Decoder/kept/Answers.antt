use Rattle.std.proofs.Common.{◌∙◌}
use Rattle.ob_xml.proofs.Takings.{keeps}
use Rattle.ob_xml.proofs.decoder.Decoder.kept.Goals as goal

pub returns : goal.returns
returns c = λ bytes h. keeps c.args.self.now.reading bytes _ h.1 (c.len.ensures ∙ c.args.self.now.reading.kept.ok.0)
