use Rattle.ob_tree.specs.Standings.{context}
use Rattle.ob_tree.proofs.Walking.{may_stand_none}
use Rattle.ob_tree.proofs.standing.Standing.view.Goals as goal

pub view_told-requires : goal.view_told-requires
view_told-requires g c = may_stand_none (context c.args.self.now) c.args.object.now.head
