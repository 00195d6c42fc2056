use Rattle.std.proofs.Common.{◌<◌, length, sym, ◌∙◌, arith}
use Rattle.ob_site_same.proofs.Numbered.{alarm_at}
use Rattle.ob_site_same.proofs.Alike.{alike_more}
use Rattle.ob_site_same.proofs.alarms.same_list.Goals as goal

pub loop-place-preserved : goal.loop-place-preserved
loop-place-preserved c =
    let xs = c.args.alarms.now.alarms in
    let ys = c.args.others.now.alarms in
    let place = c.loop-place.place in
    let test = c.loop-place-test.true in
    let within : place < length xs = omega (arith, test, c.len-place-end.ensures.len) in
    let within_too : place < length ys = omega (arith, test, c.len-place-end.ensures.len, c.len.ensures.len, c.len-2.ensures.len, c.if-len.false) in
    alike_more xs ys place c.loop-place.invariant within within_too
    (sym (alarm_at place xs) ∙ sym c.alarm.ensures ∙ c.same_found.ensures.0 c.if-not-same_found.false ∙ c.alarm-in-loop-place.ensures ∙ alarm_at place ys)
