use Rattle.std.proofs.Common.{◌<◌, ◌≤◌, ℕ, subst}
use Rattle.ob_site_watches.proofs.Made.{none_keeps, none_served, way_keeps, way_served}
use Rattle.ob_site_watches.proofs.making.make_way.Goals as goal

pub returns-then-next-number-clause-served : goal.returns-then-next-number-clause-served
returns-then-next-number-clause-served c = λ plan before o is made.
    none_served plan c.args.now before c.args.watches.now o (subst (λ (n : ℕ). c.args.watches.now.next ≤ n) is (subst (λ (n : ℕ). n ≤ c.args.number) c.next_number-next.ensures c.if-next-number.true)) made

pub returns-then-next-number-clause-known : goal.returns-then-next-number-clause-known
returns-then-next-number-clause-known c = λ plan before o k is made known.
    none_keeps plan c.args.now before c.args.watches.now o (subst (λ (n : ℕ). c.args.watches.now.next ≤ n) is (subst (λ (n : ℕ). n ≤ c.args.number) c.next_number-next.ensures c.if-next-number.true)) made k known

pub returns-clause-served : goal.returns-clause-served
returns-clause-served c = λ plan before o is made.
    way_served plan c.args.now before c.args.watches.now c.give_way.new.self o (subst (λ (n : ℕ). n < c.args.watches.now.next) is (subst (λ (n : ℕ). c.args.number < n) c.next_number-next.ensures c.if-next-number.false)) made c.give_way.ensures

pub returns-clause-known : goal.returns-clause-known
returns-clause-known c = λ plan before o k is made known.
    way_keeps plan c.args.now before c.args.watches.now c.give_way.new.self o (subst (λ (n : ℕ). n < c.args.watches.now.next) is (subst (λ (n : ℕ). c.args.number < n) c.next_number-next.ensures c.if-next-number.false)) made c.give_way.ensures k known
