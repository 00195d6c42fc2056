use Rattle.std.proofs.Common.{take}
use Rattle.ob_contracts.specs.Telling.{ArePut}
use Rattle.ob_contracts.proofs.fewer.put_names.Given as goal

abbrev pub invariant-loop-child : goal.invariant-loop-child
invariant-loop-child l = ArePut l.initial.known l.known (take l.child-index l.child-items) l.new
