use Rattle.std.proofs.Common.{◌≡◌, ℕ, List, length, map, Bor}
use Rattle.ob_command.specs.Arguments.{has_only}
use Rattle.ob_command.specs.Words.{arguments_of}
use Rattle.ob_command.proofs.argument.Arguments.has_only.Given as goal

abbrev pub invariant-loop-argument : goal.invariant-loop-argument
invariant-loop-argument l = has_only (map (λ (name : Bor (List ℕ)). name.now) l.names) (arguments_of l.rest) ≡ has_only (map (λ (name : Bor (List ℕ)). name.now) l.names) (arguments_of l.self)

abbrev pub decreases-loop-argument : goal.decreases-loop-argument
decreases-loop-argument l = length l.rest.words.now
