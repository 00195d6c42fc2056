use Rattle.ob_journal.proofs.Fronts as fronts
use Rattle.ob_journal.proofs.laws.one_meaning.Goals as goal

pub returns : goal.returns
returns g c = fronts.one_meaning g.S.Shape.is_entry g.met.S.Shape.one_first g.met.S.Shape.some_byte
