use Rattle.ob_site_file.proofs.Worst.{Sought}
use Rattle.ob_site_file.proofs.bad.subject_in.Given as goal

abbrev pub invariant-loop-part : goal.invariant-loop-part
invariant-loop-part l = Sought l.parts l.part-index
