use Rattle.ob_site_file.specs.Opened.{history_entry}
use Rattle.ob_site_file.proofs.Planned.{Gives}
use Rattle.ob_site_file.proofs.plan.put_histories.Given as goal

abbrev pub invariant-loop-part : goal.invariant-loop-part
invariant-loop-part l = Gives history_entry (λ p. p.roles.history) l.parts l.part-index l.initial.histories.items l.histories.items
