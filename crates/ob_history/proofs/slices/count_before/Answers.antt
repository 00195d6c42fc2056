use Rattle.std.proofs.Common.{◌≡◌, true, false, arith, rules}
use Rattle.std.specs.Prelude.{int_lt}
use Rattle.ob_times.specs.Times.{instant}
use Rattle.ob_history.proofs.Order.{holds_up_to, fails_behind, count_point, low_before}
use Rattle.ob_history.proofs.slices.count_before.Goals as goal

pub loop-low-preserved-then-instant : goal.loop-low-preserved-then-instant
loop-low-preserved-then-instant c =
    let t = instant c.args.start.now in
    let x = c.index-records-place.result in
    let is : int_lt (instant x.time) t ≡ true = search rules in
    let within = c.loop-low.invariant.within in
    record {
      ordered = omega arith;
      within = within;
      before = holds_up_to (λ z. int_lt z t) (low_before t) c.args.records.now c.requires _ x (omega arith) c.index-records-place.is is;
      behind = c.loop-low.invariant.behind;
    }

pub loop-low-preserved : goal.loop-low-preserved
loop-low-preserved c =
    let t = instant c.args.start.now in
    let x = c.index-records-place.result in
    let is : int_lt (instant x.time) t ≡ false = search rules in
    let within = c.loop-low.invariant.within in
    record {
      ordered = omega arith;
      within = omega arith;
      before = c.loop-low.invariant.before;
      behind = fails_behind (λ z. int_lt z t) (low_before t) c.args.records.now c.requires _ x (omega arith) c.index-records-place.is is;
    }

pub returns-clause-count : goal.returns-clause-count
returns-clause-count c =
    let t = instant c.args.start.now in
    let held = c.loop-low.invariant in
    let ordered = held.ordered in
    let within = held.within in
    count_point (λ r. int_lt (instant r.time) t) c.args.records.now c.loop-low.low (omega arith)
    (held.before, (λ k d a b. held.behind k d (omega arith) b))
