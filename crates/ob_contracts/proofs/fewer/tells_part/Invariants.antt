use Rattle.std.proofs.Common.{◌≡◌, not, ◌&&◌, drop}
use Rattle.std.specs.List.{list_any}
use Rattle.ob_contracts.specs.Found.{lent}
use Rattle.ob_contracts.specs.Parts.{has_part}
use Rattle.ob_contracts.specs.Telling.{has_one, head_parts}
use Rattle.ob_contracts.proofs.fewer.tells_part.Given as goal

abbrev pub invariant-loop-part : goal.invariant-loop-part
invariant-loop-part l =
    list_any (λ p. has_part p l.source && not (has_one (lent l.heads) l.source.head.kind p)) (drop l.part-index l.part-items)
    ≡ list_any (λ p. has_part p l.source && not (has_one (lent l.heads) l.source.head.kind p)) head_parts
