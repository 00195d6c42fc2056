use Rattle.std.proofs.Common.{◌≡◌, true, sym, ◌∙◌, arith}
use Rattle.std.specs.Prelude.{nat_lt}
use Rattle.std.proofs.lemmas.Bool.Decides.{nat_tests}
use Rattle.ob_watch.proofs.GivingLemmas.{lacks_long, lacks_short}
use Rattle.ob_watch.proofs.watches.lacks_room.Goals as goal

pub returns-then-len-gt1000 : goal.returns-then-len-gt1000
returns-then-len-gt1000 c ws number now held =
    let many : nat_lt 1000 c.len.result ≡ true = grind (arith, nat_tests) in
    many ∙ lacks_long ws c.args.held.now.entries number now c.len.result held c.len.ensures.len c.if-len-gt1000.true

pub returns-else-len-gt1000 : goal.returns-else-len-gt1000
returns-else-len-gt1000 c ws number now held =
    lacks_short ws c.args.held.now.entries number now c.len.result held c.len.ensures.len c.if-len-gt1000.false c.room_left.result
    (c.room_left.ensures c.args.held.now.entries (sym (c.as_slice.ensures ∙ c.values.ensures.rest))) c.lacks_watch.result c.lacks_watch.ensures
