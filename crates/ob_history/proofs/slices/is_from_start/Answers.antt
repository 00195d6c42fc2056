use Rattle.std.proofs.Common.{◌≡◌, ◌<◌, length, false, arith, rules}
use Rattle.std.specs.Prelude.{int_lt}
use Rattle.ob_times.specs.Times.{instant}
use Rattle.ob_history.proofs.Order.{fails_behind, low_before}
use Rattle.ob_history.proofs.slices.is_from_start.Goals as goal

pub returns : goal.returns
returns c = λ yes.
    let t = instant c.args.start.now in
    let x = c.index-records-place.result in
    let is : int_lt (instant x.time) t ≡ false = search (rules, yes) in
    let within = c.requires.within in
    let some = c.if-place-records.false in
    let first : c.args.place < length c.args.records.now = omega arith in
    fails_behind (λ z. int_lt z t) (low_before t) c.args.records.now c.requires.in_order c.args.place x first c.index-records-place.is is
