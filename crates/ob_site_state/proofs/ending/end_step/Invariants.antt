use Rattle.std.proofs.Common.{◌≡◌, map, take}
use Rattle.ob_site_state.specs.Stamping.{after_step}
use Rattle.ob_site_state.proofs.ending.end_step.Given as goal

abbrev pub invariant-loop-node : goal.invariant-loop-node
invariant-loop-node l = l.ground ≡ record l.fn.ground { tree = after_step (map (λ node. node.number) (take l.node-index l.changed)) l.fn.ground.tree }
