use Rattle.std.proofs.Common.{◌≡◌, ◌+◌, ℕ, Bool, true, false, ◌||◌, List, drop, get_or, sym, ap, ◌∙◌}
use Rattle.std.specs.Prelude.{nat_le}
use Rattle.std.specs.List.{list_any}
use Rattle.ob_site_state.proofs.Noting.{got_there}
use Rattle.ob_site_actions.proofs.Selected.{logs_at, is_full_log, any_more, recorder_within, out_is, out_so, not_out}
use Rattle.ob_site_actions.proofs.limits.any_counted_out.Goals as goal

pub loop-place-init : goal.loop-place-init
loop-place-init c =
    let k = c.args.state.now in
    ap (λ (qs : List ℕ). list_any is_full_log (logs_at qs k.now.logs)) c.recorders-recorders.ensures
    ∙ out_is k.plan c.args.source.now k.now.logs c.sound_law.ensures.apart c.sound_law.ensures.histories

pub events_ever-requires : goal.events_ever-requires
events_ever-requires c =
    let k = c.args.state.now in
    recorder_within k.plan c.args.source.now k.now.logs c.recorders-recorders.result.now c.loop-place.place-index 0 c.sound_law.ensures.apart c.sound_law.ensures.histories c.recorders-recorders.ensures c.loop-place-test.true

pub returns-then-events_ever-ge9223372036854775807 : goal.returns-then-events_ever-ge9223372036854775807
returns-then-events_ever-ge9223372036854775807 c =
    let k = c.args.state.now in
    let ps = c.recorders-recorders.result.now in
    let n = c.loop-place.place-index in
    let p = get_or ps n 0 in
    let within = recorder_within k.plan c.args.source.now k.now.logs ps n 0 c.sound_law.ensures.apart c.sound_law.ensures.histories c.recorders-recorders.ensures c.loop-place-test.true in
    let there = got_there k.now.logs p within in
    let so : is_full_log there.0 ≡ true = ap (nat_le 9_223_372_036_854_775_807) (sym (c.events_ever.ensures.value there.0 there.1)) ∙ out_so c.events_ever.result c.if-events_ever-ge9223372036854775807.true in
    sym (ap (λ (b : Bool). b || list_any is_full_log (logs_at (drop (n + 1) ps) k.now.logs)) so)
    ∙ sym (any_more is_full_log ps n 0 k.now.logs there.0 c.loop-place-test.true there.1)
    ∙ c.loop-place.invariant

pub loop-place-preserved : goal.loop-place-preserved
loop-place-preserved c =
    let k = c.args.state.now in
    let ps = c.recorders-recorders.result.now in
    let n = c.loop-place.place-index in
    let p = get_or ps n 0 in
    let within = recorder_within k.plan c.args.source.now k.now.logs ps n 0 c.sound_law.ensures.apart c.sound_law.ensures.histories c.recorders-recorders.ensures c.loop-place-test.true in
    let there = got_there k.now.logs p within in
    let so : is_full_log there.0 ≡ false = ap (nat_le 9_223_372_036_854_775_807) (sym (c.events_ever.ensures.value there.0 there.1)) ∙ not_out c.events_ever.result c.if-events_ever-ge9223372036854775807.false in
    sym (ap (λ (b : Bool). b || list_any is_full_log (logs_at (drop (n + 1) ps) k.now.logs)) so)
    ∙ sym (any_more is_full_log ps n 0 k.now.logs there.0 c.loop-place-test.true there.1)
    ∙ c.loop-place.invariant
