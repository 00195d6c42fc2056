use Rattle.std.proofs.Common.{◌≡◌, ◌==◌, true, drop}
use Rattle.ob_href.proofs.OwnLemmas.{is_tail}
use Rattle.ob_href.proofs.own.is_own_path.Given as goal

abbrev pub invariant-loop-byte : goal.invariant-loop-byte
invariant-loop-byte l = is_tail (l.last == 47) (drop l.byte-index l.path) ≡ true → is_tail true l.path ≡ true
