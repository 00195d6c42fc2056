use Rattle.std.proofs.Common.{◌≡◌, ◌-◌, ◌<◌, length, true, arith, rules}
use Rattle.std.specs.Prelude.{int_lt}
use Rattle.ob_times.specs.Times.{instant}
use Rattle.ob_history.proofs.Order.{holds_up_to, low_before}
use Rattle.ob_history.proofs.slices.is_behind_start.Goals as goal

pub returns : goal.returns
returns c = λ yes.
    let t = instant c.args.start.now in
    let x = c.index-records-place.result in
    let is : int_lt (instant x.time) t ≡ true = search (rules, yes) in
    let within = c.requires.within in
    let some = c.if-place-eq0.false in
    let last : c.args.place - 1 < length c.args.records.now = omega arith in
    λ k d from below. holds_up_to (λ z. int_lt z t) (low_before t) c.args.records.now c.requires.in_order (c.args.place - 1) x last c.index-records-place.is is k d from (omega arith)
