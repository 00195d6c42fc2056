use Rattle.std.proofs.Common.{◌+◌, ◌*◌, ◌^◌, ◌<◌, arith}
use Rattle.ob_xml.proofs.Codes.{one_more, has_room}
use Rattle.ob_xml.proofs.names.code.Goals as goal

pub overflow_mul-code : goal.overflow_mul-code
overflow_mul-code c =
    let room : c.loop-byte.code * 256 + 0 < 2 ^ 128 =
    has_room (c.loop-byte.byte-index + 1) (c.loop-byte.code * 256 + 0) (one_more c.loop-byte.byte-index c.loop-byte.code 0 c.loop-byte.invariant.room (omega arith)) (omega (arith, c.requires, c.loop-byte-test.true)) in
    omega arith

pub overflow_add-code : goal.overflow_add-code
overflow_add-code c =
    let small : c.from.result < 256 = omega (arith, c.from.ensures, c.type_inv.name c.loop-byte.byte-index) in
    let room : c.loop-byte.code * 256 + c.from.result < 2 ^ 128 =
    has_room (c.loop-byte.byte-index + 1) (c.loop-byte.code * 256 + c.from.result) (one_more c.loop-byte.byte-index c.loop-byte.code c.from.result c.loop-byte.invariant.room small) (omega (arith, c.requires, c.loop-byte-test.true)) in
    omega arith
