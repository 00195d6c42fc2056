use Rattle.std.proofs.Common.{◌<◌, length, length-append, drop, ap, ◌∙◌, arith}
use Rattle.ob_turn.specs.Callers.{own, calls_of}
use Rattle.ob_turn.specs.Standing.{mine}
use Rattle.ob_turn.proofs.Histories.{mine_same}
use Rattle.ob_turn.proofs.Sharing.{joined_first, joined_second, joined_mine}
use Rattle.ob_turn.proofs.pass.Pass.join.Goals as goal

pub overflow_add-self : goal.overflow_add-self
overflow_add-self g c =
    let v = c.self.inside.seat.me.0 in let w = c.into_seat-seat.result.0.me.0 in
    let a = c.merge.ensures.saw.count in let b = c.self.invariant.3 in let d = c.into_seat-seat.ensures.shares in let e = ap (λ m. length m.0.numbers) c.into_seat-seat.ensures.seat.1 in
    omega (arith, length-append v.numbers w.numbers, a, b, d, e)

pub returns-clause-own : goal.returns-clause-own
returns-clause-own g c = rw (ap (λ m. m.0.seen) c.merge.ensures.view, ← c.self.view_is) (joined_first c.self.inside.seat.me.0 c.into_seat-seat.result.0.me.0 c.merge.ensures.saw)

pub returns-clause-others : goal.returns-clause-others
returns-clause-others g c = let e = c.into_seat-seat.ensures.seat.1 in
    rw (ap (λ m. m.0.seen) c.merge.ensures.view, ← ap (λ m. m.0.numbers) e, ← ap (λ m. m.0.seen) e) (joined_second c.self.inside.seat.me.0 c.into_seat-seat.result.0.me.0 c.merge.ensures.saw)

pub returns-clause-calls : goal.returns-clause-calls
returns-clause-calls g c =
    let v = c.self.inside.seat.me.0 in let w = c.into_seat-seat.result.0.me.0 in
    let some_numbers : 0 < length v.numbers = omega (arith, c.self.invariant.3, c.self.invariant.4) in
    ap (λ m. calls_of (own m.0.numbers) (drop m.0.since m.0.seen)) c.merge.ensures.view ∙ (joined_mine v w some_numbers c.self.invariant.5 c.merge.ensures.saw ∙ ap mine c.self.view_is)

pub returns-clause-theirs : goal.returns-clause-theirs
returns-clause-theirs g c =
    let w = c.args.other in let e = c.into_seat-seat.ensures in
    mine_same w.numbers w.since w.seen _ e.some e.since
    (rw (ap (λ m. m.0.seen) c.merge.ensures.view, ← ap (λ m. m.0.numbers) e.seat.1, ← ap (λ m. m.0.seen) e.seat.1) (joined_second c.self.inside.seat.me.0 c.into_seat-seat.result.0.me.0 c.merge.ensures.saw))
