use Rattle.std.proofs.Common.{◌≡◌, ◌+◌, map, take, ap, ◌∙◌}
use Rattle.ob_ground.specs.Grounds.{Grounded}
use Rattle.ob_site_state.specs.Stamping.{after_step}
use Rattle.ob_site_state.proofs.Stepping.{one_within, touched_next}
use Rattle.ob_site_state.proofs.ending.end_step.Goals as goal

pub touch-requires : goal.touch-requires
touch-requires c =
    one_within c.args.changed.now c.loop-node.node-index _ c.args.ground.now.tree c.loop-node.ground.tree c.loop-node-test.true c.requires.within
    (ap (λ (g : Grounded). g.tree) c.loop-node.invariant)

pub loop-node-preserved : goal.loop-node-preserved
loop-node-preserved c =
    let tree : c.touch.new.self.tree ≡ after_step (map (λ node. node.number) (take (c.loop-node.node-index + 1) c.args.changed.now)) c.args.ground.now.tree =
    touched_next c.args.changed.now c.loop-node.node-index _ c.args.ground.now.tree c.loop-node.ground.tree c.touch.new.self.tree c.loop-node-test.true
    (ap (λ (g : Grounded). g.tree) c.loop-node.invariant) (ap (λ (g : Grounded). g.tree) c.touch.ensures) in
    let library : c.touch.new.self.library ≡ c.args.ground.now.library =
    ap (λ (g : Grounded). g.library) c.touch.ensures ∙ ap (λ (g : Grounded). g.library) c.loop-node.invariant in
    λ i. record { library = library i; tree = tree i }
