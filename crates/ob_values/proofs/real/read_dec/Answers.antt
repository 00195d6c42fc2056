use Rattle.ob_spelling.specs.White.{trim}
use Rattle.ob_values.proofs.OneReal.{one_real_read}
use Rattle.ob_values.proofs.real.read_dec.Goals as goal

pub returns-clause-only : goal.returns-clause-only
returns-clause-only c = λ answer h. one_real_read (trim c.args.bytes.now) c.real_of.result answer c.real_of.ensures h
