use Rattle.ob_site_rules.specs.Loading.{path_of}
use Rattle.ob_site_file.proofs.Planned.{Gives}
use Rattle.ob_site_file.proofs.plan.put_points.Given as goal

abbrev pub invariant-loop-part : goal.invariant-loop-part
invariant-loop-part l = Gives path_of (λ p. p.roles.point) l.parts l.part-index l.initial.points.items l.points.items
