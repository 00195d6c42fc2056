use Rattle.ob_site_file.proofs.Planned.{Says}
use Rattle.ob_site_file.proofs.about.put_about.Given as goal

abbrev pub invariant-loop-child : goal.invariant-loop-child
invariant-loop-child l = Says l.child-items l.child-index l.initial.texts.items l.texts.items
