use Rattle.std.proofs.Common.{◌≡◌, ◌≤◌, ◌+◌, ◌^◌, length, sym, ◌∙◌, arith}
use Rattle.std.proofs.lemmas.Result.{IfOk-weaker}
use Rattle.ob_alarms.specs.Changes.{alarm_of}
use Rattle.ob_site_rules.specs.State.{at, numbered_from}
use Rattle.ob_site_rules.specs.Places.{alarm_places}
use Rattle.ob_plain_state.specs.Parts.{parts_of_alarm}
use Rattle.ob_site_reads.proofs.Numbers.{by_number, elsewhere}
use Rattle.ob_site_reads.proofs.places.alarm_place.Goals as goal

pub returns-in-Some : goal.returns-in-Some
returns-in-Some c =
    let plan = c.args.plan.now in
    let rules = numbered_from 0 plan.rules in
    let p = c.args.path.now in
    let alarms = c.args.alarms.now.alarms in
    let few : 1 + length alarms ≤ 2 ^ 64 = let n = c.len-count.ensures.len in let m = c.len-count.ensures.few in omega (arith, n, m) in
    IfOk-weaker c.numbered_alarm.result (λ place. place ≡ at p (parts_of_alarm plan rules c.in-Some.number (alarm_of c.in-Some.number alarms)))
    (λ place. place ≡ at p (alarm_places plan rules 1 alarms))
    (λ place is. is ∙ by_number plan rules p c.in-Some.number alarms c.in-Some.ensures few) c.numbered_alarm.ensures

pub returns-in-None : goal.returns-in-None
returns-in-None c =
    let plan = c.args.plan.now in
    let alarms = c.args.alarms.now.alarms in
    let few : 1 + length alarms ≤ 2 ^ 64 = let n = c.len-count.ensures.len in let m = c.len-count.ensures.few in omega (arith, n, m) in
    sym (elsewhere plan (numbered_from 0 plan.rules) c.args.path.now 1 alarms c.in-None.ensures few)
