use Rattle.std.proofs.Common.{◌≡◌, ◌+◌, List, suc, drop, map, drop-cons, add-one, ap, sym, ◌∙◌, ◌∷◌}
use Rattle.ob_site_rules.specs.Build.{Path}
use Rattle.ob_plain_state.specs.States.{entry_of}
use Rattle.ob_site_rules.specs.Loading.{greatest}
use Rattle.ob_step_laws.specs.Ordered.{moment_from, opening_time}
use Rattle.ob_plain_state.specs.declared.log.OpenedLog.{OpenedLog}
use Rattle.ob_history.specs.declared.records.Record.{Record}
use Rattle.ob_site_open.proofs.OpeningTime.{opens_later}
use Rattle.ob_site_open.proofs.time.opening_time.Goals as goal

pub loop-entry-preserved : goal.loop-entry-preserved
loop-entry-preserved c =
    let i = c.loop-entry.entry-index in
    let logs = c.args.logs.now in
    let item = c.entry-item.result in
    let behind : List (Path × OpenedLog) = drop (i + 1) logs in
    let front : drop i logs ≡ item ∷ drop (suc i) logs =
    drop-cons logs i item c.loop-entry-test.true ∙ ap (λ (x : Path × OpenedLog). x ∷ drop (suc i) logs) (sym c.entry-item.is) in
    let whole : drop i logs ≡ item ∷ behind = front ∙ ap (λ n. item ∷ drop n logs) (sym (add-one i)) in
    let read : c.latest-time.result ≡ greatest c.loop-entry.time (map (λ r. moment_from r.time) item.1.kept.items) =
    c.latest-time.ensures ∙ ap (λ (rs : List Record). greatest c.loop-entry.time (map (λ r. moment_from r.time) rs)) c.deref.ensures.value in
    ap (λ n. opening_time n (map entry_of behind)) read
    ∙ sym (opens_later c.loop-entry.time (entry_of item) (map entry_of behind))
    ∙ ap (λ (es : List (Path × OpenedLog)). opening_time c.loop-entry.time (map entry_of es)) (sym whole)
    ∙ c.loop-entry.invariant
