use Rattle.std.proofs.Common.{◌≡◌, List, sym, ap, ◌∙◌, subst}
use Rattle.std.proofs.lemmas.Result.{IfOk-weaker}
use Rattle.ob_times.specs.Times.{moment_instant}
use Rattle.ob_object.specs.declared.head.Slot.{Slot}
use Rattle.ob_history.specs.declared.records.Record.{Record}
use Rattle.ob_history.specs.Records.{IsRecord}
use Rattle.ob_site_rules.specs.Build.{Path}
use Rattle.ob_site_rules.specs.State.{Log}
use Rattle.ob_site_rules.specs.Writes.{with_record}
use Rattle.ob_site_state.specs.Changes.{with_log}
use Rattle.ob_site_state.specs.Kept.{Kept}
use Rattle.ob_site_state.proofs.state.State.record_copy.Goals as goal

pub record-requires-clause-is_record : goal.record-requires-clause-is_record
record-requires-clause-is_record c =
    subst (λ (s : Slot). let r : Record = record { time = moment_instant c.args.self.now.time; kind = c.args.kind; slot = s } in IsRecord r) (sym c.in_ok-copy.ensures) c.requires.is_record

pub returns-clause-ok : goal.returns-clause-ok
returns-clause-ok c =
    let k = c.args.self.now in
    let with : Slot → Kept = λ s. (
    let r : Record = record { time = moment_instant k.time; kind = c.args.kind; slot = s } in record k { now = record k.now { logs = with_log (with_record r) c.args.place k.now.logs } }
    ) in
    IfOk-weaker c.record.result (λ _. c.record.new.self ≡ with c.in_ok-copy.copy) (λ _. c.record.new.self ≡ with c.args.slot.now) (λ _ e. e ∙ ap with c.in_ok-copy.ensures) c.record.ensures.ok
