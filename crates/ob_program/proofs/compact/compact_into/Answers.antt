use Rattle.std.proofs.Common.{inl, inr, refl, Err, ap, arith, ◌∙◌}
use Rattle.ob_program.proofs.CompactLemmas.{devices_came, into_done, into_none}
use Rattle.ob_program.proofs.compact.compact_into.Goals as goal

pub returns-in-Err : goal.returns-in-Err
returns-in-Err g c =
    let d = g.V.D.Device in
    into_none d.is_told d.seen d.may_leave d.moment d.left_since d.faults _ _ _ _ _ c.args.device.now c.in-Err.fault _ (g.met.V.D.Device.only_now c.args.device.now) c.of_device.ensures
    c.in-Err.ensures.given c.open.ensures.apart c.open.ensures.cause.later (λ e. c.open.ensures.cause.failed (c.in-Err.is ∙ ap (λ f. Err f) e))

pub returns-then-back : goal.returns-then-back
returns-then-back g c =
    let d = g.V.D.Device in
    let o = c.in-Ok.ensures in
    let e = c.compact-compacted.ensures in
    let b = c.back.ensures.broken c.if-back.true in
    into_done d.is_told d.seen d.may_leave d.moment d.left_since d.faults _ _ _ _ _ _ _ c.args.device.now c.compact-compacted.new.device c.in-Ok.fresh c.compact-compacted.new.fresh c.compact-compacted.result _
    e.seen e.any_moment (record { given = o.given; durable = o.durable; fresh = o.fresh; returned_is = c.open.ensures.apart; later = c.open.ensures.cause.later })
    (record { returned = c.back.ensures.returned; given_is = c.back.ensures.apart; counts = inr b.1 })
    (devices_came d.is_told d.seen d.may_leave d.moment d.left_since d.faults _ c.args.device.now c.in-Ok.fresh c.compact-compacted.new.fresh c.compact-compacted.result e.says e.durable e.refused e.fresh)
    e.old e.cause (inl (b.0, refl)) (λ no. omega (arith, c.open.ensures.cause.later, b.1)) (inr (omega (arith, c.open.ensures.cause.later, b.1)))

pub returns-in-Ok-compacted : goal.returns-in-Ok-compacted
returns-in-Ok-compacted g c =
    let d = g.V.D.Device in
    let o = c.in-Ok.ensures in
    let e = c.compact-compacted.ensures in
    let w = c.back.ensures.whole c.if-back.false in
    into_done d.is_told d.seen d.may_leave d.moment d.left_since d.faults _ _ _ _ _ _ _ c.args.device.now c.compact-compacted.new.device c.in-Ok.fresh c.compact-compacted.new.fresh c.compact-compacted.result _
    e.seen e.any_moment (record { given = o.given; durable = o.durable; fresh = o.fresh; returned_is = c.open.ensures.apart; later = c.open.ensures.cause.later })
    (record { returned = c.back.ensures.returned; given_is = c.back.ensures.apart; counts = inl w.1 })
    (devices_came d.is_told d.seen d.may_leave d.moment d.left_since d.faults _ c.args.device.now c.in-Ok.fresh c.compact-compacted.new.fresh c.compact-compacted.result e.says e.durable e.refused e.fresh)
    e.old e.cause (inr (w.0, inl (c.in-Ok-compacted.compacted, c.in-Ok-compacted.is, refl))) (λ no. absurd (no w.0)) (inl (omega (arith, c.open.ensures.cause.later, w.1)))

pub returns-in-Err-compacted : goal.returns-in-Err-compacted
returns-in-Err-compacted g c =
    let d = g.V.D.Device in
    let o = c.in-Ok.ensures in
    let e = c.compact-compacted.ensures in
    let w = c.back.ensures.whole c.if-back.false in
    into_done d.is_told d.seen d.may_leave d.moment d.left_since d.faults _ _ _ _ _ _ _ c.args.device.now c.compact-compacted.new.device c.in-Ok.fresh c.compact-compacted.new.fresh c.compact-compacted.result _
    e.seen e.any_moment (record { given = o.given; durable = o.durable; fresh = o.fresh; returned_is = c.open.ensures.apart; later = c.open.ensures.cause.later })
    (record { returned = c.back.ensures.returned; given_is = c.back.ensures.apart; counts = inl w.1 })
    (devices_came d.is_told d.seen d.may_leave d.moment d.left_since d.faults _ c.args.device.now c.in-Ok.fresh c.compact-compacted.new.fresh c.compact-compacted.result e.says e.durable e.refused e.fresh)
    e.old e.cause (inr (w.0, inr (c.in-Err-compacted.fault, c.in-Err-compacted.is, ap (λ f. Err f) c.of_fault.ensures))) (λ no. absurd (no w.0)) (inl (omega (arith, c.open.ensures.cause.later, w.1)))
