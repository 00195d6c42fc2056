use Rattle.std.proofs.Common.{None}
use Rattle.ob_contracts.specs.Inherit.{or_else}
use Rattle.ob_contracts.proofs.Taught.{tells_none}
use Rattle.ob_contracts.proofs.reading.View.inherited_child.Goals as goal

pub invariant_of-result : goal.invariant_of-result
invariant_of-result c = record { stand = tells_none c.args.self.now.library.now (or_else c.args.child.now.head.is None) }
