use Rattle.std.proofs.Common.{◌≡◌, ℕ, List, drop, map, bytes_eq, Bor}
use Rattle.std.specs.List.{list_any}
use Rattle.ob_command.proofs.argument.is_among.Given as goal

abbrev pub invariant-loop-other : goal.invariant-loop-other
invariant-loop-other l =
    list_any (λ other. bytes_eq other l.word) (map (λ (other : Bor (List ℕ)). other.now) (drop l.other-index l.words))
    ≡ list_any (λ other. bytes_eq other l.word) (map (λ (other : Bor (List ℕ)). other.now) l.words)
