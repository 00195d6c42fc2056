use Rattle.std.proofs.Common.{◌≡◌, drop}
use Rattle.ob_contracts.specs.Found.{lent}
use Rattle.ob_contracts.specs.Telling.{has_one}
use Rattle.ob_contracts.proofs.fewer.has_one.Given as goal

abbrev pub invariant-loop-head : goal.invariant-loop-head
invariant-loop-head l = has_one (lent (drop l.head-index l.heads)) l.kind l.part ≡ has_one (lent l.heads) l.kind l.part
