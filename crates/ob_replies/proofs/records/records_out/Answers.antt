use Rattle.std.proofs.Common.{◌≡◌, ℕ, List, ◌++◌, map, length, ap, ◌∙◌, rules}
use Rattle.std.specs.Prelude.{is_none}
use Rattle.std.specs.List.{list_all}
use Rattle.std.proofs.lemmas.List.{length-map}
use Rattle.std.proofs.lemmas.Result.{IfOk-weaker}
use Rattle.ob_times.specs.Times.{Instant}
use Rattle.ob_object.specs.Object.{Object}
use Rattle.ob_history.specs.declared.records.Record.{Record}
use Rattle.ob_site_rules.specs.Entries.{record_object, numbers_told}
use Rattle.ob_replies.specs.Numbers.{first_number}
use Rattle.ob_replies.proofs.Fitting.{records_fit, front_fit, back_fit}
use Rattle.ob_replies.proofs.Nameless.{records_nameless}
use Rattle.ob_replies.proofs.Told.{joined, records_told}
use Rattle.ob_replies.proofs.records.records_out.Goals as goal

pub put_records-requires : goal.put_records-requires
put_records-requires c = front_fit c.query-first.result.front.now c.query-first.result.back.now (records_fit _ c.query-first.ensures.records)

pub put_records-requires-2 : goal.put_records-requires-2
put_records-requires-2 c = back_fit c.query-first.result.front.now c.query-first.result.back.now (records_fit _ c.query-first.ensures.records)

pub query_out-requires-clause-nameless : goal.query_out-requires-clause-nameless
query_out-requires-clause-nameless c =
    let front = c.query-first.result.front.now in
    let back = c.query-first.result.back.now in
    let objects : c.put_records-2.new.objects.items ≡ map record_object (front ++ back) =
    joined record_object front back _ _ _ c.new-objects.ensures.items c.in_ok-put_records.ensures.objects c.in_ok-put_records-2.ensures.objects in
    ap (λ (os : List Object). list_all (λ o. is_none o.head.name) os) objects ∙ records_nameless (front ++ back)

pub returns : goal.returns
returns c =
    let front = c.query-first.result.front.now in
    let back = c.query-first.result.back.now in
    let time : Record → Instant = λ r. r.time in
    let times : c.put_records-2.new.times.items ≡ map time (front ++ back) =
    joined time front back _ _ _ c.new-times.ensures.items c.in_ok-put_records.ensures.times c.in_ok-put_records-2.ensures.times in
    let objects : c.put_records-2.new.objects.items ≡ map record_object (front ++ back) =
    joined record_object front back _ _ _ c.new-objects.ensures.items c.in_ok-put_records.ensures.objects c.in_ok-put_records-2.ensures.objects in
    let long : c.len.result ≡ length c.put_records-2.new.objects.items = search rules in
    let told =
    c.numbers_told-numbers.ensures.told
    ∙ ap (λ (g : ℕ). numbers_told c.args.query.now.from g (first_number c.query-first.result.first c.len.result)) c.gone.ensures in
    IfOk-weaker c.query_out.result _ _
    (λ o h. h
    ∙ records_told c.args.query.now c.args.log.now.gone c.query-first.result.first c.len.result c.args.log.now.kept (front ++ back) _ _ _ c.query-first.ensures.value (long ∙ ap length objects ∙ length-map (front ++ back) record_object) told (c.deref.ensures.value ∙ times) objects)
    c.query_out.ensures
