use Rattle.std.proofs.Common.{◌≡◌, ◌<◌, ◌≤◌, ℕ, List, length, take, get_or, sym, ap, ◌∙◌, subst, arith}
use Rattle.std.specs.Prelude.{slice_get, slice_index_or}
use Rattle.std.proofs.lemmas.List.{take_all}
use Rattle.ob_times.specs.Times.{moment_instant}
use Rattle.ob_history.specs.declared.records.Record.{Record}
use Rattle.ob_history.specs.Records.{IsRecord}
use Rattle.ob_site_rules.specs.Build.{Path}
use Rattle.ob_site_rules.specs.State.{Log}
use Rattle.ob_site_rules.specs.Writes.{records_from, with_record}
use Rattle.ob_site_state.specs.Roles.{is_of, recorders_of}
use Rattle.ob_site_state.specs.Changes.{with_log}
use Rattle.ob_site_state.specs.Kept.{Kept}
use Rattle.ob_site_state.proofs.Noting.{got_there}
use Rattle.ob_site_state.proofs.Recording.{with_logs, with_logs_more, with_logs_below, length-with_logs, all_with_logs, beside_histories, length-beside, recorder}
use Rattle.ob_site_state.proofs.state.State.record_all.Goals as goal

pub record_copy-requires-clause-there : goal.record_copy-requires-clause-there
record_copy-requires-clause-there c =
    let k = c.args.self.now in
    let n = c.loop-next.next in
    let source = c.args.source.now in
    let ps = recorders_of k.plan source in
    let p = slice_index_or c.recorders.result.now n 0 in
    let r : Record = record { time = moment_instant k.time; kind = c.args.kind; slot = c.args.slot.now } in
    let same : c.recorders.result.now ≡ ps = c.recorders.ensures ∙ ap (λ (x : Kept). recorders_of x.plan source) c.loop-next.invariant in
    let lt : n < length ps = subst (λ (qs : List ℕ). n < length qs) c.recorders-count.ensures c.loop-next-test.true in
    let one = recorder k.plan source k.now.logs n p 0 c.sound_law.ensures.apart c.sound_law.ensures.histories lt (ap (λ (qs : List ℕ). get_or qs n 0) same) in
    subst (λ (x : Kept). p < length x.now.logs) (sym c.loop-next.invariant) (omega (arith, one.within, length-with_logs (with_record r) (take n ps) k.now.logs))

pub record_copy-requires-clause-counted : goal.record_copy-requires-clause-counted
record_copy-requires-clause-counted c = λ l e.
    let k = c.args.self.now in
    let n = c.loop-next.next in
    let source = c.args.source.now in
    let ps = recorders_of k.plan source in
    let p = slice_index_or c.recorders.result.now n 0 in
    let r : Record = record { time = moment_instant k.time; kind = c.args.kind; slot = c.args.slot.now } in
    let same : c.recorders.result.now ≡ ps = c.recorders.ensures ∙ ap (λ (x : Kept). recorders_of x.plan source) c.loop-next.invariant in
    let lt : n < length ps = subst (λ (qs : List ℕ). n < length qs) c.recorders-count.ensures c.loop-next-test.true in
    let one = recorder k.plan source k.now.logs n p 0 c.sound_law.ensures.apart c.sound_law.ensures.histories lt (ap (λ (qs : List ℕ). get_or qs n 0) same) in
    let there = sym (with_logs_below (with_record r) (take n ps) p k.now.logs one.below) ∙ sym (ap (λ (x : Kept). slice_get x.now.logs p) c.loop-next.invariant) ∙ e in
    (c.requires p l there (one.records l there)).0

pub record_copy-requires-clause-is_record : goal.record_copy-requires-clause-is_record
record_copy-requires-clause-is_record c =
    let k = c.args.self.now in
    let n = c.loop-next.next in
    let source = c.args.source.now in
    let ps = recorders_of k.plan source in
    let p = slice_index_or c.recorders.result.now n 0 in
    let same : c.recorders.result.now ≡ ps = c.recorders.ensures ∙ ap (λ (x : Kept). recorders_of x.plan source) c.loop-next.invariant in
    let lt : n < length ps = subst (λ (qs : List ℕ). n < length qs) c.recorders-count.ensures c.loop-next-test.true in
    let one = recorder k.plan source k.now.logs n p 0 c.sound_law.ensures.apart c.sound_law.ensures.histories lt (ap (λ (qs : List ℕ). get_or qs n 0) same) in
    let there = got_there k.now.logs p one.within in
    subst (λ (x : Kept). let r : Record = record { time = moment_instant x.time; kind = c.args.kind; slot = c.args.slot.now } in IsRecord r) (sym c.loop-next.invariant)
    (c.requires p there.0 there.1 (one.records there.0 there.1)).1

pub loop-next-preserved : goal.loop-next-preserved
loop-next-preserved c =
    let k = c.args.self.now in
    let n = c.loop-next.next in
    let source = c.args.source.now in
    let ps = recorders_of k.plan source in
    let p = slice_index_or c.recorders.result.now n 0 in
    let r : Record = record { time = moment_instant k.time; kind = c.args.kind; slot = c.args.slot.now } in
    let same : c.recorders.result.now ≡ ps = c.recorders.ensures ∙ ap (λ (x : Kept). recorders_of x.plan source) c.loop-next.invariant in
    let lt : n < length ps = subst (λ (qs : List ℕ). n < length qs) c.recorders-count.ensures c.loop-next-test.true in
    let with : List (Path × Log) → Kept = λ ls. record k { now = record k.now { logs = ls } } in
    let step : c.record_copy.new.self ≡ with (with_log (with_record r) p (with_logs (with_record r) (take n ps) k.now.logs)) =
    subst (λ (x : Kept). let q : Record = record { time = moment_instant x.time; kind = c.args.kind; slot = c.args.slot.now } in let y : Kept = record x { now = record x.now { logs = with_log (with_record q) p x.now.logs } } in c.record_copy.new.self ≡ y) c.loop-next.invariant
    c.in_ok-record_copy.ensures.ok in
    step ∙ ap with (with_logs_more (with_record r) ps n p 0 k.now.logs lt (ap (λ (qs : List ℕ). get_or qs n 0) same))

pub returns-clause-ok : goal.returns-clause-ok
returns-clause-ok c =
    let k = c.args.self.now in
    let n = c.loop-next.next in
    let source = c.args.source.now in
    let r : Record = record { time = moment_instant k.time; kind = c.args.kind; slot = c.args.slot.now } in
    let ps = recorders_of k.plan source in
    let with : List (Path × Log) → Kept = λ ls. record k { now = record k.now { logs = ls } } in
    let end : length ps ≤ n = subst (λ (qs : List ℕ). length qs ≤ n) c.recorders-count.ensures (omega (arith, c.loop-next-test.false)) in
    c.loop-next.invariant
    ∙ ap with (
    ap (λ (qs : List ℕ). with_logs (with_record r) qs k.now.logs) (take_all n ps end)
    ∙ all_with_logs (is_of source) (λ l. records_from k.plan source l.0) (with_record r) k.plan.histories k.now.logs (length-beside k.plan k.now.logs c.sound_law.ensures.histories)
    (beside_histories k.plan source k.now.logs c.sound_law.ensures.apart c.sound_law.ensures.histories)
    )
