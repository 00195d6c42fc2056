use Rattle.std.proofs.Common.{◌≡◌, ℕ, List, ◌++◌, Err, subst, sym}
use Rattle.ob_scan.specs.declared.stop.Stop.TheVariants.{Want}
use Rattle.ob_scan.specs.Reading.{behind_pair_from}
use Rattle.ob_scan.proofs.Waits.{pair_wants, none_left}
use Rattle.ob_scan.proofs.wait.pair_wait.Goals as goal

pub returns : goal.returns
returns c = pair_wants c.args.first c.args.second c.loop-byte.seen c.loop-byte.progress c.args.bytes.now
    (λ tail w. c.loop-byte.invariant tail (subst (λ (xs : List ℕ). behind_pair_from c.args.first c.args.second c.loop-byte.seen c.loop-byte.progress (xs ++ tail) ≡ Err Want) (sym (none_left c.args.bytes.now c.loop-byte.byte-index c.loop-byte-test.false)) w))
