use Rattle.std.proofs.Common.{None}
use Rattle.ob_contracts.proofs.Taught.{tells_none}
use Rattle.ob_tree.proofs.standing.Standing.at_root.Goals as goal

pub invariant_of-result : goal.invariant_of-result
invariant_of-result c = record { stand = tells_none c.args.library.now None }
