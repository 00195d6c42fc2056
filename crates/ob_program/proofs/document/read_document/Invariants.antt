use Rattle.std.proofs.Common.{◌≡◌, ℕ, List, ◌++◌, length}
use Rattle.ob_xml.specs.Decoding.{HasRead}
use Rattle.ob_program.proofs.document.read_document.Given as goal

abbrev pub invariant-loop-rest : goal.invariant-loop-rest
invariant-loop-rest l = (front : List ℕ) × HasRead l.decoder front × (l.bytes ≡ front ++ l.rest)

abbrev pub decreases-loop-rest : goal.decreases-loop-rest
decreases-loop-rest l = length l.rest
