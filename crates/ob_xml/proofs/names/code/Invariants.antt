use Rattle.std.proofs.Common.{◌≡◌, ◌*◌, ◌^◌, ◌<◌, drop}
use Rattle.ob_xml.specs.Codes.{code_from, code_of}
use Rattle.ob_xml.proofs.names.code.Given as goal

abbrev pub invariant-loop-byte : goal.invariant-loop-byte
invariant-loop-byte l = record {
  value : code_from l.code (drop l.byte-index l.name) ≡ code_of l.name;
  room : l.code < 2 * 256 ^ l.byte-index;
}
