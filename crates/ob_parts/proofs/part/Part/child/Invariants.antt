use Rattle.std.proofs.Common.{◌≡◌, drop, find}
use Rattle.ob_parts.specs.Numbered.{numbered_from, child}
use Rattle.ob_parts.specs.Views.{part_of}
use Rattle.ob_parts.proofs.Walk.{named_part}
use Rattle.ob_parts.proofs.part.Part.child.Given as goal

abbrev pub invariant-loop-object : goal.invariant-loop-object
invariant-loop-object l = find (named_part l.fn.name) (numbered_from l.number (drop l.object-index l.object-items)) ≡ child l.fn.name (part_of l.fn.self)
