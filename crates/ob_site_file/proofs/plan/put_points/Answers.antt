use Rattle.ob_site_rules.specs.Loading.{path_of}
use Rattle.ob_site_file.proofs.Planned.{gives_more, gives_all}
use Rattle.ob_site_file.proofs.plan.put_points.Goals as goal

pub loop-part-preserved : goal.loop-part-preserved
loop-part-preserved c =
    gives_more path_of (λ p. p.roles.point) c.args.parts.now c.loop-part.part-index c.part-item.result c.args.points.now.items c.loop-part.points.items c.put_point.new.points.items c.loop-part-test.true c.part-item.is
    c.in_ok-put_point.ensures c.loop-part.invariant

pub returns : goal.returns
returns c = gives_all path_of (λ p. p.roles.point) c.args.parts.now c.loop-part.part-index c.args.points.now.items c.loop-part.points.items c.loop-part-test.false c.loop-part.invariant
