use Rattle.std.proofs.Common.{map, []}
use Rattle.ob_plain_state.specs.States.{entry_of, AreCounted}
use Rattle.ob_site_file.specs.Opened.{whole_log}
use Rattle.ob_site_file.proofs.Planned.{Gives}
use Rattle.ob_site_file.proofs.plan.logs_of.Given as goal

abbrev pub invariant-loop-part : goal.invariant-loop-part
invariant-loop-part l = Gives whole_log (λ p. p.roles.history) l.parts l.part-index [] (map entry_of l.logs.items) × AreCounted (map entry_of l.logs.items)
