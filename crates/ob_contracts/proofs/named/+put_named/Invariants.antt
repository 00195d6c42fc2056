use Rattle.std.proofs.Common.{drop}
use Rattle.ob_object.specs.Object.{parts}
use Rattle.ob_contracts.specs.Named.{KeepsKnown}
use Rattle.ob_contracts.proofs.Known.{IsLeft}
use Rattle.ob_contracts.proofs.named.+put_named.Given as goal

abbrev pub invariant-loop-child : goal.invariant-loop-child
invariant-loop-child l = record {
  kept : KeepsKnown l.fn.known l.known;
  left : IsLeft l.known l.object (drop l.child-index l.child-items);
}

abbrev pub decreases-put_named : goal.decreases-put_named
decreases-put_named l = parts l.object.now
