use Rattle.std.proofs.Common.{◌≡◌, ◌<◌, ◌++◌, List, Some, length, sym, ap, ◌∙◌, arith, length-append}
use Rattle.ob_history.specs.declared.records.Record.{Record}
use Rattle.ob_site_same.proofs.Alike.{alike_more}
use Rattle.ob_site_same.proofs.Kept.{since_all}
use Rattle.ob_site_same.proofs.records.same_records.Goals as goal

pub loop-place-preserved : goal.loop-place-preserved
loop-place-preserved c =
    let front = c.since.result.0.now in
    let back = c.since.result.1.now in
    let first = c.since-2.result.0.now in
    let second = c.since-2.result.1.now in
    let place = c.loop-place.place in
    let test = c.loop-place-test.true in
    let here : length (front ++ back) ≡ length c.args.log.now.kept = ap (λ (l : List Record). length l) (c.since.ensures.value ∙ since_all c.args.log.now) in
    let there : length (first ++ second) ≡ length c.args.other.now.kept = ap (λ (l : List Record). length l) (c.since-2.ensures.value ∙ since_all c.args.other.now) in
    let within : place < length (front ++ back) = omega (arith, test, length-append front back) in
    let within_too : place < length (first ++ second) = omega (arith, within, here, there, c.len.ensures.len, c.len-2.ensures.len, c.if-len.false) in
    alike_more (front ++ back) (first ++ second) place c.loop-place.invariant within within_too
    (sym c.record_at.ensures ∙ ap (λ (r : Record). Some r) (c.same_record.ensures.0 c.if-not-same_record.false) ∙ c.record_at-in-loop-place.ensures)
