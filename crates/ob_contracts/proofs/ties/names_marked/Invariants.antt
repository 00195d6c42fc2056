use Rattle.std.proofs.Common.{◌≡◌, drop}
use Rattle.std.specs.List.{list_any}
use Rattle.ob_contracts.specs.Ties.{is_marked}
use Rattle.ob_contracts.proofs.ties.names_marked.Given as goal

abbrev pub invariant-loop-place : goal.invariant-loop-place
invariant-loop-place l = list_any (λ i. is_marked i l.marks) (drop l.place-index l.row) ≡ list_any (λ i. is_marked i l.marks) l.row
