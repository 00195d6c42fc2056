use Rattle.std.proofs.Common.{◌≡◌, drop}
use Rattle.ob_object.specs.Object.{in_row}
use Rattle.ob_shown_laws.specs.Changed.{is_in}
use Rattle.ob_site_reads.proofs.owners.among.Given as goal

abbrev pub invariant-loop-object : goal.invariant-loop-object
invariant-loop-object l = is_in l.path (in_row (drop l.object-index l.objects)) ≡ is_in l.path (in_row l.objects)
