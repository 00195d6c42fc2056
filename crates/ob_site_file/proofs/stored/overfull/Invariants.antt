use Rattle.ob_site_file.proofs.Worst.{StoredLeft}
use Rattle.ob_site_file.proofs.stored.overfull.Given as goal

abbrev pub invariant-loop-part : goal.invariant-loop-part
invariant-loop-part l = StoredLeft l.parts l.part-index l.sum
