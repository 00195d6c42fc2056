use Rattle.std.proofs.Common.{◌≡◌, ℕ, List, ◌++◌, Err, subst, sym}
use Rattle.ob_scan.specs.declared.stop.Stop.TheVariants.{Want}
use Rattle.ob_scan.specs.Reading.{run_from}
use Rattle.ob_scan.proofs.Waits.{run_wants, none_left}
use Rattle.ob_scan.proofs.wait.run_wait.Goals as goal

pub returns : goal.returns
returns c = run_wants c.args.ends c.loop-byte.progress c.args.bytes.now (λ tail w. c.loop-byte.invariant tail (subst (λ (xs : List ℕ). run_from c.args.ends c.loop-byte.progress (xs ++ tail) ≡ Err Want) (sym (none_left c.args.bytes.now c.loop-byte.byte-index c.loop-byte-test.false)) w))
