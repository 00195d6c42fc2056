use Rattle.std.proofs.Common.{map, take}
use Rattle.ob_contracts.specs.Ties.{AreMarked}
use Rattle.ob_contracts.proofs.ties.Ties.behind.Given as goal

-- the contracts of the rows up to one are marked
abbrev pub invariant-loop-row : goal.invariant-loop-row
invariant-loop-row l = AreMarked l.first l.written (map (λ r. r.items) (take l.row-index l.row-items)) l.marks.items
