use Rattle.std.proofs.Common.{◌≡◌, ◌≤◌, ◌<◌, ℕ, ◌+◌, ◌-◌, length, subst, sym, ◌∙◌, arith}
use Rattle.ob_watch.proofs.GivingLemmas.{Rounds, ends_last, ends_none, ends_room, rounds_first, rounds_one}
use Rattle.ob_watch.proofs.watches.give_way.Goals as goal

pub loop-round-init : goal.loop-round-init
loop-round-init c = rounds_first c.args.now c.args.held.now.entries c.requires

pub returns-then-not-lacks_room-clause-gone : goal.returns-then-not-lacks_room-clause-gone
returns-then-not-lacks_room-clause-gone c =
    ends_room (c.loop-round._round - 1) c.args.now c.args.held.now.entries c.loop-round.held.entries c.loop-round.invariant c.lacks_room.result c.lacks_room.ensures c.if-not-lacks_room.true

pub returns-then-not-lacks_room-clause-part : goal.returns-then-not-lacks_room-clause-part
returns-then-not-lacks_room-clause-part c = c.loop-round.invariant.part

pub returns-in_default-clause-gone : goal.returns-in_default-clause-gone
returns-in_default-clause-gone c =
    ends_none (c.loop-round._round - 1) c.args.now c.args.held.now.entries c.loop-round.held.entries c.loop-round.invariant (sym c.idlest.ensures ∙ c.in_default.is)

pub returns-in_default-clause-part : goal.returns-in_default-clause-part
returns-in_default-clause-part c = c.loop-round.invariant.part

pub loop-round-preserved : goal.loop-round-preserved
loop-round-preserved c =
    let first : 1 ≤ c.loop-round._round = c.loop-round.auto._round in
    let lt : c.loop-round._round < length c.args.held.now.entries = subst (λ (n : ℕ). c.loop-round._round < n) c.len-round-end.ensures.len c.loop-round-test.true in
    let next : c.loop-round._round - 1 + 1 ≡ c.loop-round._round + 1 - 1 = omega (arith, first) in
    subst (λ (n : ℕ). Rounds n c.args.now c.args.held.now.entries c.shift_remove.new.self.entries) next
    (rounds_one (c.loop-round._round - 1) c.args.now c.args.held.now.entries c.loop-round.held.entries c.loop-round.invariant c.lacks_room.result c.lacks_room.ensures c.if-not-lacks_room.false
    c.in-Some.number c.shift_remove.new.self.entries (omega (arith, first, lt)) (sym c.idlest.ensures ∙ c.in-Some.is) c.shift_remove.ensures.entries c.shift_remove.ensures.unique)

pub returns-clause-gone : goal.returns-clause-gone
returns-clause-gone c =
    let first : 1 ≤ c.loop-round._round = c.loop-round.auto._round in
    let past : length c.args.held.now.entries ≤ c.loop-round._round = subst (λ (n : ℕ). n ≤ c.loop-round._round) c.len-round-end.ensures.len c.loop-round-test.false in
    ends_last (c.loop-round._round - 1) c.args.now c.args.held.now.entries c.loop-round.held.entries c.loop-round.invariant (omega (arith, first, past))

pub returns-clause-part : goal.returns-clause-part
returns-clause-part c = c.loop-round.invariant.part
