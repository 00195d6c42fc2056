use Rattle.std.proofs.Common.{◌≡◌, drop}
use Rattle.ob_scan.specs.Waiting.{after_all}
use Rattle.ob_xml.proofs.going.wait_behind.Given as goal

abbrev pub invariant-loop-byte : goal.invariant-loop-byte
invariant-loop-byte l = after_all l.wait (drop l.byte-index l.piece) ≡ after_all l.initial.wait l.piece
