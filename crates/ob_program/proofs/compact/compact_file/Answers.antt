use Rattle.std.proofs.Common.{inl, inr, refl, arith}
use Rattle.ob_program.proofs.CompactLemmas.{file_done}
use Rattle.ob_program.proofs.compact.compact_file.Goals as goal

pub returns-then-back : goal.returns-then-back
returns-then-back g c =
    let d = g.V.D.Device in
    let o = c.in-Ok-open.ensures in
    let b = c.back.ensures.broken c.if-back.true in
    file_done d.is_told d.seen d.may_leave d.moment d.left_since d.faults _ _ _ _ _ _ _ _ _ _ _ c.in-Ok-open.device c.compact_into-compacted.new.device c.compact_into-compacted.result _
    (c.read_file.ensures.same c.args.words.site.now) (record { given = o.given; durable = o.durable; fresh = o.fresh; returned_is = c.open.ensures.apart; later = c.open.ensures.cause.later })
    c.compact_into-compacted.ensures (record { returned = c.back.ensures.returned; given_is = c.back.ensures.apart; counts = inr b.1 })
    (inl (b.0, refl)) c.read_file.ensures.cause.later (λ whole. absurd (b.0 whole)) (λ no. b.1)

pub returns : goal.returns
returns g c =
    let d = g.V.D.Device in
    let o = c.in-Ok-open.ensures in
    let w = c.back.ensures.whole c.if-back.false in
    file_done d.is_told d.seen d.may_leave d.moment d.left_since d.faults _ _ _ _ _ _ _ _ _ _ _ c.in-Ok-open.device c.compact_into-compacted.new.device c.compact_into-compacted.result _
    (c.read_file.ensures.same c.args.words.site.now) (record { given = o.given; durable = o.durable; fresh = o.fresh; returned_is = c.open.ensures.apart; later = c.open.ensures.cause.later })
    c.compact_into-compacted.ensures (record { returned = c.back.ensures.returned; given_is = c.back.ensures.apart; counts = inl w.1 })
    (inr (w.0, refl)) c.read_file.ensures.cause.later (λ whole. omega (arith, w.1)) (λ no. absurd (no w.0))
