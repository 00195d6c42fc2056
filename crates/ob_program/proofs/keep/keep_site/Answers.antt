use Rattle.std.proofs.Common.{inl, inr, refl, Err, ap, arith, ◌∙◌}
use Rattle.ob_program.proofs.KeepLemmas.{comes_kept, comes_unopened}
use Rattle.ob_program.proofs.keep.keep_site.Goals as goal

pub returns-in-Err-clause-comes : goal.returns-in-Err-clause-comes
returns-in-Err-clause-comes g c =
    comes_unopened _ _ _ _ _ _ _ _ _ _ _ _ _ _ _ _ _ _ _ _ _ _ _ _ _ _ _ _ _ c.in-Ok.moment c.in-Err.fault _ c.in-Ok.ensures.gave c.now.ensures.apart c.of_device.ensures c.in-Err.ensures.given c.open.ensures.apart
    (λ e. c.open.ensures.cause.failed (c.in-Err.is ∙ ap (λ f. Err f) e))

pub returns-then-back-clause-comes : goal.returns-then-back-clause-comes
returns-then-back-clause-comes g c =
    let o = c.in-Ok-open.ensures in
    let b = c.back.ensures.broken c.if-back.true in
    comes_kept _ _ _ _ _ _ _ _ _ _ _ _ _ _ _ _ _ _ _ _ _ _ _ _ _ _ _ _ _ _ _ _ _ c.in-Ok.moment _ _ _ c.keep_device-device.result.1 _ c.in-Ok.ensures.gave c.now.ensures.apart c.now.ensures.cause.later
    (record { given = o.given; durable = o.durable; fresh = o.fresh; returned_is = c.open.ensures.apart; later = c.open.ensures.cause.later })
    (record { returned = c.back.ensures.returned; given_is = c.back.ensures.apart; counts = inr b.1 })
    c.keep_device-device.ensures.keeps (inl (b.0, refl)) (λ _. omega (arith, c.open.ensures.cause.later, b.1))

pub returns-clause-comes : goal.returns-clause-comes
returns-clause-comes g c =
    let o = c.in-Ok-open.ensures in
    let w = c.back.ensures.whole c.if-back.false in
    comes_kept _ _ _ _ _ _ _ _ _ _ _ _ _ _ _ _ _ _ _ _ _ _ _ _ _ _ _ _ _ _ _ _ _ c.in-Ok.moment _ _ _ c.keep_device-device.result.1 _ c.in-Ok.ensures.gave c.now.ensures.apart c.now.ensures.cause.later
    (record { given = o.given; durable = o.durable; fresh = o.fresh; returned_is = c.open.ensures.apart; later = c.open.ensures.cause.later })
    (record { returned = c.back.ensures.returned; given_is = c.back.ensures.apart; counts = inl w.1 })
    c.keep_device-device.ensures.keeps (inr (w.0, refl)) (λ no. absurd (no w.0))
