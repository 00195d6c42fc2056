use Rattle.std.proofs.Common.{refl}
use Rattle.ob_xml.proofs.Takings.{taken_none}
use Rattle.ob_xml.proofs.reading.Reading.new.Goals as goal

pub returns : goal.returns
returns c = taken_none _ c.new.ensures c.new-2.ensures.items refl refl refl
