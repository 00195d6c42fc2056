use Rattle.ob_program.proofs.ServingLemmas.{line_printed}
use Rattle.ob_program.proofs.serve.announce.Goals as goal

pub returns-clause-prints : goal.returns-clause-prints
returns-clause-prints g c = line_printed (λ l. l.items) c.listening_line.result _ _ _ c.print.result c.listening_line.ensures c.print.ensures.prints
