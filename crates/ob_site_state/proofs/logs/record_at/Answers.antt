use Rattle.std.proofs.Common.{◌≡◌, ◌++◌, ◌∷◌, [], length, map, Some, option_map, sym, ap, ◌∙◌}
use Rattle.std.specs.Prelude.{slice_get, slice_set, slice_index_or}
use Rattle.std.proofs.lemmas.Result.{IfOk-weaker}
use Rattle.ob_site_rules.specs.Build.{Path}
use Rattle.ob_site_rules.specs.State.{Log}
use Rattle.ob_site_rules.specs.Writes.{with_record}
use Rattle.ob_site_state.specs.Changes.{with_log}
use Rattle.ob_site_state.specs.Kept.{entry_of}
use Rattle.ob_site_state.proofs.LogPlaces.{entry_there, set_entry, recorded_log}
use Rattle.ob_site_state.proofs.logs.record_at.Goals as goal

pub record-requires-clause-counted : goal.record-requires-clause-counted
record-requires-clause-counted c =
    let x = c.index-logs-place.result in
    c.requires.counted (entry_of (slice_index_or c.args.logs.now c.args.place x)) (entry_there c.args.place c.args.logs.now x c.requires.there c.index-logs-place.is)

pub record-requires-clause-in_order : goal.record-requires-clause-in_order
record-requires-clause-in_order c =
    let x = c.index-logs-place.result in
    c.requires.in_order (entry_of (slice_index_or c.args.logs.now c.args.place x)) (entry_there c.args.place c.args.logs.now x c.requires.there c.index-logs-place.is)

pub returns-clause-ok : goal.returns-clause-ok
returns-clause-ok c =
    let ls = c.args.logs.now in
    let x = c.index-logs-place.result in
    let old = (slice_index_or ls c.args.place x).1 in
    let new = c.record.new.log in
    IfOk-weaker c.record.result (λ _. new.kept ≡ old.kept ++ c.args.entry ∷ []) (λ _. map entry_of (slice_set ls c.args.place ((slice_index_or ls c.args.place x).0, new)) ≡ with_log (with_record c.args.entry) c.args.place (map entry_of ls))
    (λ _ kept. set_entry (with_record c.args.entry) c.args.place ls x new c.requires.there (recorded_log new old c.args.entry c.record.ensures.capacity c.record.ensures.gone kept)) c.record.ensures.kept

pub returns-clause-len : goal.returns-clause-len
returns-clause-len c =
    let ls = c.args.logs.now in
    let x = c.index-logs-place.result in
    IfOk-weaker c.record.result (λ len. len ≡ length (slice_index_or ls c.args.place x).1.kept) (λ len. Some len ≡ option_map (λ (l : Path × Log). length l.1.kept) (slice_get (map entry_of ls) c.args.place))
    (λ len is. ap (λ n. Some n) is ∙ sym (ap (option_map (λ (l : Path × Log). length l.1.kept)) (entry_there c.args.place ls x c.requires.there c.index-logs-place.is))) c.record.ensures.len
