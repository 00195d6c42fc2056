use Rattle.std.proofs.Common.{◌≡◌, map, take}
use Rattle.ob_requests.proofs.asked.texts_of.Given as goal

abbrev pub invariant-loop-a : goal.invariant-loop-a
invariant-loop-a l = l.texts.items ≡ map (λ a. a.0) (take l.a-index l.asked)
