use Rattle.std.proofs.Common.{map, ap, ◌∙◌}
use Rattle.ob_object.specs.Object.{Object}
use Rattle.ob_tree.specs.LastTouch.{Begins, done}
use Rattle.ob_ground.specs.Grounds.{Grounded}
use Rattle.ob_site_state.specs.Kept.{state_of}
use Rattle.ob_site_state.proofs.Stepping.{rooted}
use Rattle.ob_site_state.proofs.contents.Contents.stamp.Goals as goal

pub returns-clause-same : goal.returns-clause-same
returns-clause-same c =
    let old = c.args.self.now in
    ap (λ (g : Grounded). state_of g.library g.tree.root old.logs.items old.board) c.end_step.ensures
    ∙ ap (λ (o : Object). state_of old.ground.library o old.logs.items old.board) (rooted (map (λ node. node.number) c.args.changed.now) (done Begins old.ground.tree))
