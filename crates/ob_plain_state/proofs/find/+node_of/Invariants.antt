use Rattle.std.proofs.Common.{◌≡◌, drop}
use Rattle.ob_object.specs.Object.{in_row, children, parts}
use Rattle.ob_site_rules.specs.Shown.{node_in}
use Rattle.ob_plain_state.proofs.find.+node_of.Given as goal

abbrev pub invariant-loop-child : goal.invariant-loop-child
invariant-loop-child l =
    node_in l.path (in_row (drop l.child-index l.child-items)) ≡ node_in l.path (in_row (children l.object))

abbrev pub decreases-node_of : goal.decreases-node_of
decreases-node_of l = parts l.object.now
