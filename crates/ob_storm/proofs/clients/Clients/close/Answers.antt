use Rattle.std.proofs.Common.{◌∙◌, ap, length, List, ℕ}
use Rattle.ob_turn.proofs.Numbers.{below_length}
use Rattle.ob_storm.proofs.clients.Clients.close.Goals as goal

pub close-requires-clause-all : goal.close-requires-clause-all
close-requires-clause-all g c = ap (λ (ns : List ℕ). length ns) c.self.invariant.1 ∙ below_length 4294967296
