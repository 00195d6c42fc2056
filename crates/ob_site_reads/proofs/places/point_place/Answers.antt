use Rattle.std.proofs.Common.{sym, subst}
use Rattle.ob_site_reads.specs.Parents.{IsParent}
use Rattle.ob_site_reads.proofs.Alone.{no_points, unended_points}
use Rattle.ob_site_reads.proofs.places.point_place.Goals as goal

pub returns-then-not-is_ended : goal.returns-then-not-is_ended
returns-then-not-is_ended c = sym (unended_points c.args.path.now c.args.state.now.plan.points (c.is_ended.ensures c.if-not-is_ended.true))

pub returns-in-None : goal.returns-in-None
returns-in-None c = sym (no_points c.args.path.now c.args.state.now.plan.points (subst (IsParent c.args.path.now) c.in-None.is c.in_ok-parent.ensures))
