use Rattle.std.proofs.Common.{sym}
use Rattle.ob_site.proofs.OwnAt.{own_there, none_there}
use Rattle.ob_site.proofs.points.own_at.Goals as goal

pub returns-in-Some : goal.returns-in-Some
returns-in-Some c = own_there c.args.path.now c.args.tree.now.root c.in-Some.node.number c.own.result.now (sym c.in-Some.ensures.place) c.own.ensures

pub returns-in-None : goal.returns-in-None
returns-in-None c = none_there c.args.path.now c.args.tree.now.root (sym c.in-None.ensures.place)
