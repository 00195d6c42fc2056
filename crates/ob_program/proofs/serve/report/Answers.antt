use Rattle.ob_program.proofs.ServingLemmas.{line_printed, nothing_printed}
use Rattle.ob_program.proofs.serve.report.Goals as goal

pub returns-in-Some-clause-prints : goal.returns-in-Some-clause-prints
returns-in-Some-clause-prints g c =
    rw c.in-Some.is (line_printed (λ l. l.items) c.served_line.result _ _ _ c.print.result c.served_line.ensures c.print.ensures.prints)

pub returns-in-None-clause-prints : goal.returns-in-None-clause-prints
returns-in-None-clause-prints g c = rw c.in-None.is (nothing_printed _ _)
