use Rattle.std.proofs.Common.{◌≡◌, ◌+◌, ◌-◌, ◌^◌, ℕ, min, cond, refl, sym, ap, ◌∙◌, arith}
use Rattle.ob_site_rules.specs.Sameness.{same_slot}
use Rattle.ob_site_rules.specs.Writes.{is_over, recorded, board_after}
use Rattle.ob_site_actions.specs.Limits.{growing, any_counted_out}
use Rattle.ob_site_actions.proofs.Counting.{over_is, full_over, out_over, other_overfills}
use Rattle.ob_site_actions.proofs.limits.overfills.Goals as goal

pub returns-then-is_full : goal.returns-then-is_full
returns-then-is_full c =
    let k = c.args.state.now in
    let p = c.args.path.now in
    let h = c.args.head.now in
    let slot = c.args.slot.now in
    let is = c.would_act-is_event.result in
    let sum : c.saturating_add-more.result ≡ min (growing k.plan p k.now.logs + cond {A = ℕ} is 1 0) (2 ^ 64 - 1) = omega (arith, c.saturating_add-more.ensures, c.growing.ensures, c.one_if.ensures) in
    full_over c.is_full.result (any_counted_out k.plan p k.now.logs) (is_over (recorded k.plan k.time p h.kind slot k.now.logs) (board_after k.plan k.now k.time p slot)) c.if-is_full.true
    (over_is k.plan k.now k.time p h.kind slot is c.saturating_add-more.result c.is_full.result (any_counted_out k.plan p k.now.logs) c.sound_law.ensures.sound.consistent.counted c.would_act-is_event.ensures sum c.is_full.ensures refl)
    ∙ other_overfills k.plan k.now k.time p h slot (sym (ap (same_slot slot) c.slot.ensures) ∙ sym c.same_slot.ensures ∙ c.if-same_slot.false)

pub returns-else-is_full : goal.returns-else-is_full
returns-else-is_full c =
    let k = c.args.state.now in
    let p = c.args.path.now in
    let h = c.args.head.now in
    let slot = c.args.slot.now in
    let is = c.would_act-is_event.result in
    let sum : c.saturating_add-more.result ≡ min (growing k.plan p k.now.logs + cond {A = ℕ} is 1 0) (2 ^ 64 - 1) = omega (arith, c.saturating_add-more.ensures, c.growing.ensures, c.one_if.ensures) in
    out_over c.is_full.result c.any_counted_out.result (is_over (recorded k.plan k.time p h.kind slot k.now.logs) (board_after k.plan k.now k.time p slot)) c.if-is_full.false
    (over_is k.plan k.now k.time p h.kind slot is c.saturating_add-more.result c.is_full.result c.any_counted_out.result c.sound_law.ensures.sound.consistent.counted c.would_act-is_event.ensures sum c.is_full.ensures c.any_counted_out.ensures)
    ∙ other_overfills k.plan k.now k.time p h slot (sym (ap (same_slot slot) c.slot.ensures) ∙ sym c.same_slot.ensures ∙ c.if-same_slot.false)
