use Rattle.std.proofs.Common.{◌∷◌, ◌≡◌, ℕ, suc, ◌-◌, refl, sym, subst, arith}
use Rattle.ob_super.specs.InHand as in_hand
use Rattle.ob_super.proofs.RoundLemmas.{dials_here, dials_behind}
use Rattle.ob_super.proofs.supervisor.+dial_at.Goals as goal

pub returns-then-place-eq0-clause-dials : goal.returns-then-place-eq0-clause-dials
returns-then-place-eq0-clause-dials g t c =
    let before = in_hand.outside (g.W.Dialer.dials c.args.dialer.now) (g.W.Dialer.visits c.args.dialer.now) in
    let after = in_hand.outside (g.W.Dialer.dials c.dial.new.dialer) (g.W.Dialer.visits c.dial.new.dialer) in
    let first : c.args.place ≡ 0 = omega (arith, c.if-place-eq0.true) in
    subst (λ (n : ℕ). in_hand.DialsAt g.W.L.Link.left g.W.L.Link.taken g.W.L.Link.held before after c.args.number n c.args.all.now (c.dial.new.followed ∷ c.in-Some.rest.now) c.dial.result) (sym first)
    (subst (λ fs. in_hand.DialsAt g.W.L.Link.left g.W.L.Link.taken g.W.L.Link.held before after c.args.number 0 fs (c.dial.new.followed ∷ c.in-Some.rest.now) c.dial.result) (sym c.in-Some.ensures.cases.0)
    (dials_here g.W.L.Link.left g.W.L.Link.taken g.W.L.Link.held before after c.args.number c.in-Some.first.now c.dial.new.followed c.in-Some.rest.now c.dial.result c.dial.ensures.same c.dial.ensures.dials))

pub returns-clause-spent : goal.returns-clause-spent
returns-clause-spent g t c =
    let next : suc (c.args.place - 1) ≡ c.args.place = omega (arith, c.if-place-eq0.false) in
    subst (λ (n : ℕ). in_hand.IsSpent n (in_hand.states c.args.all.now) (in_hand.states (c.in-Some.first.now ∷ c.dial_at.new.all))) next
    (subst (λ fs. in_hand.IsSpent (suc (c.args.place - 1)) (in_hand.states fs) (in_hand.states (c.in-Some.first.now ∷ c.dial_at.new.all))) (sym c.in-Some.ensures.cases.0) (refl, c.dial_at.ensures.spent))

pub returns-clause-dials : goal.returns-clause-dials
returns-clause-dials g t c =
    let before = in_hand.outside (g.W.Dialer.dials c.args.dialer.now) (g.W.Dialer.visits c.args.dialer.now) in
    let after = in_hand.outside (g.W.Dialer.dials c.dial_at.new.dialer) (g.W.Dialer.visits c.dial_at.new.dialer) in
    let next : suc (c.args.place - 1) ≡ c.args.place = omega (arith, c.if-place-eq0.false) in
    subst (λ (n : ℕ). in_hand.DialsAt g.W.L.Link.left g.W.L.Link.taken g.W.L.Link.held before after c.args.number n c.args.all.now (c.in-Some.first.now ∷ c.dial_at.new.all) c.dial_at.result) next
    (subst (λ fs. in_hand.DialsAt g.W.L.Link.left g.W.L.Link.taken g.W.L.Link.held before after c.args.number (suc (c.args.place - 1)) fs (c.in-Some.first.now ∷ c.dial_at.new.all) c.dial_at.result) (sym c.in-Some.ensures.cases.0)
    (dials_behind g.W.L.Link.left g.W.L.Link.taken g.W.L.Link.held before after c.args.number (c.args.place - 1) c.in-Some.first.now c.in-Some.rest.now c.dial_at.new.all c.dial_at.result c.dial_at.ensures.dials))
