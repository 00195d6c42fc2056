use Rattle.std.proofs.Common.{◌≡◌, ◌+◌, [], ◌∷◌, ◌++◌, ◌∙◌, arith}
use Rattle.std.proofs.lemmas.Grind.{common_steps}
use Rattle.std.proofs.lemmas.Result.{IfOk-weaker}
use Rattle.ob_site_rules.specs.Entries.{alarm_object, numbered}
use Rattle.ob_replies.proofs.Asked.{given_as}
use Rattle.ob_replies.proofs.Numbered.{IsGivenOf, alarm_put, alarm_passed, alarms_plain, alarms_begun, alarms_gone, alarms_enough, alarms_answer}
use Rattle.ob_replies.proofs.alarms.alarms_out.Goals as goal
use Rattle.ob_replies.proofs.alarms.alarms_out.Goals.{then-is_asked+in_ok-push+in_ok-alarm_object+in_ok-put, else-is_asked, else-loop-place-test, then-loop-place-test+then-has_all}

pub loop-place-init : goal.loop-place-init
loop-place-init c =
    let begun = alarms_begun c.args.filter.now c.args.alarms.now _ _ c.raised_within-from.ensures in
    given_as c.args.filter.now.limit _ _ _ _ _ _ _ _ c.new-times.ensures.items c.new-objects.ensures.items begun

pub loop-place-preserved : goal.loop-place-preserved
loop-place-preserved c =
    let within = c.raised_within-from.ensures.within in
    elim c.if-is_asked.branch [
      | then-is_asked+in_ok-push+in_ok-alarm_object+in_ok-put w ↦
          let t : c.if-is_asked.times.items ≡ c.loop-place.times.items ++ c.raised_at-time.result ∷ [] = grind (arith, common_steps) in
          let o : c.if-is_asked.objects.items ≡ c.loop-place.objects.items ++ alarm_object c.args.alarms.now (c.loop-place.place + 1) ∷ [] = grind (arith, common_steps) in
          alarm_put c.args.filter.now c.args.alarms.now c.loop-place.times.items c.if-is_asked.times.items c.loop-place.objects.items c.deref-in-loop-place.result.now c.if-is_asked.objects.items c.loop-place.place c.raised_at-time.result c.is_asked.result c.loop-place.invariant (omega arith) c.raised_at-time.ensures c.is_asked.ensures c.deref-in-loop-place.ensures.value w.if-is_asked.true t o
      | else-is_asked w ↦
          let t : c.if-is_asked.times.items ≡ c.loop-place.times.items = cc in
          let o : c.if-is_asked.objects.items ≡ c.loop-place.objects.items = cc in
          alarm_passed c.args.filter.now c.args.alarms.now c.loop-place.times.items c.if-is_asked.times.items c.loop-place.objects.items c.deref-in-loop-place.result.now c.if-is_asked.objects.items c.loop-place.place c.raised_at-time.result c.is_asked.result c.loop-place.invariant (omega arith) c.raised_at-time.ensures c.is_asked.ensures c.deref-in-loop-place.ensures.value w.if-is_asked.false t o
    ]

pub query_out-requires-clause-nameless : goal.query_out-requires-clause-nameless
query_out-requires-clause-nameless c = alarms_plain c.args.filter.now c.args.alarms.now _ c.loop-place.times.items c.loop-place.objects.items c.loop-place.invariant

pub returns : goal.returns
returns c =
    let all : IsGivenOf c.args.filter.now c.args.alarms.now (numbered 1 c.args.alarms.now.alarms) c.loop-place.times.items c.loop-place.objects.items = elim c.loop-place-test.branch [
      | else-loop-place-test w ↦ alarms_gone c.args.filter.now c.args.alarms.now c.loop-place.times.items c.loop-place.objects.items _ _ c.loop-place.place c.raised_within-from.ensures c.loop-place.invariant (omega arith)
      | then-loop-place-test+then-has_all w ↦ alarms_enough c.args.filter.now c.args.alarms.now c.loop-place.times.items c.loop-place.objects.items w.deref.result.now c.loop-place.place w.has_all.result c.loop-place.invariant w.has_all.ensures w.deref.ensures.value w.if-has_all.true
    ] in
    IfOk-weaker c.query_out.result _ _ (λ o h. h ∙ alarms_answer c.args.filter.now c.args.alarms.now c.deref-2.result.now c.loop-place.times.items c.loop-place.objects.items all c.deref-2.ensures.value) c.query_out.ensures
