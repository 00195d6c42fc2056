use Rattle.std.proofs.Common.{◌≡◌, sym, ap, ◌∙◌, arith}
use Rattle.std.specs.Prelude.{is_some}
use Rattle.std.proofs.lemmas.Result.{IfOk-weaker}
use Rattle.ob_contracts.specs.Inherit.{or_else}
use Rattle.ob_site_rules.specs.State.{at}
use Rattle.ob_site_rules.specs.Places.{point_places}
use Rattle.ob_plain_state.specs.Parts.{point_parts}
use Rattle.ob_site_reads.proofs.Alone.{slashed_point, plain_point, neither_point, points_at, has_point, both_plain_first, both_slashed_first}
use Rattle.ob_site_reads.proofs.places.point_in.Goals as goal

pub returns-then-is_some : goal.returns-then-is_some
returns-then-is_some c =
    let plan = c.args.state.now.plan in
    let p = c.args.path.now in
    let plain = has_point c.args.parent.now plan.points _ (ap is_some (sym c.point_at-plain_at.ensures) ∙ sym c.is_some.ensures ∙ c.if-is_some.true) in
    let slashed = has_point c.in_ok-slashed.slashed plan.points _ (ap is_some (sym c.point_at.ensures ∙ c.in_default.is)) in
    IfOk-weaker c.one_point.result (λ place. place ≡ at p (point_parts c.args.parent.now)) (λ place. place ≡ at p (point_places plan))
    (λ place is. plain_point p c.args.parent.now c.in_ok-slashed.slashed plan.points place c.requires c.in_ok-slashed.ensures plain slashed is) c.one_point.ensures

pub returns-in_default : goal.returns-in_default
returns-in_default c =
    let plan = c.args.state.now.plan in
    let plain = has_point c.args.parent.now plan.points _ (ap is_some (sym c.point_at-plain_at.ensures) ∙ sym c.is_some.ensures ∙ c.if-is_some.false) in
    let slashed = has_point c.in_ok-slashed.slashed plan.points _ (ap is_some (sym c.point_at.ensures ∙ c.in_default.is)) in
    neither_point c.args.path.now c.args.parent.now c.in_ok-slashed.slashed plan.points c.requires c.in_ok-slashed.ensures plain slashed

pub returns-in_default-plain_at : goal.returns-in_default-plain_at
returns-in_default-plain_at c =
    let plan = c.args.state.now.plan in
    let p = c.args.path.now in
    let q = c.in_ok-slashed.slashed in
    let plain = has_point c.args.parent.now plan.points _ (ap is_some (sym c.point_at-plain_at.ensures ∙ c.in_default-plain_at.is)) in
    let slashed = has_point q plan.points _ (ap is_some (sym c.point_at.ensures ∙ c.in-Some.is)) in
    IfOk-weaker c.one_point-in_default-plain_at.result (λ place. place ≡ at p (point_parts q)) (λ place. place ≡ at p (point_places plan))
    (λ place is. slashed_point p c.args.parent.now q plan.points place c.requires c.in_ok-slashed.ensures plain slashed is) c.one_point-in_default-plain_at.ensures

pub returns-then-plain_at-slashed_at : goal.returns-then-plain_at-slashed_at
returns-then-plain_at-slashed_at c =
    let plan = c.args.state.now.plan in
    let p = c.args.path.now in
    let front = c.args.parent.now in
    let q = c.in_ok-slashed.slashed in
    IfOk-weaker c.point_of_two.result (λ place. place ≡ or_else (at p (point_parts front)) (at p (point_parts q))) (λ place. place ≡ at p (point_places plan))
    (λ place is. is ∙ both_plain_first point_parts p front q plan.points c.in-Some-plain_at.plain_at c.in-Some.slashed_at (points_at p front c.requires) c.in_ok-slashed.ensures
    (sym c.in-Some-plain_at.is ∙ c.point_at-plain_at.ensures) (sym c.in-Some.is ∙ c.point_at.ensures)
    (omega (arith, c.if-plain_at-slashed_at.true))) c.point_of_two.ensures

pub returns : goal.returns
returns c =
    let plan = c.args.state.now.plan in
    let p = c.args.path.now in
    let front = c.args.parent.now in
    let q = c.in_ok-slashed.slashed in
    IfOk-weaker c.point_of_two-2.result (λ place. place ≡ or_else (at p (point_parts q)) (at p (point_parts front))) (λ place. place ≡ at p (point_places plan))
    (λ place is. is ∙ both_slashed_first point_parts p front q plan.points c.in-Some-plain_at.plain_at c.in-Some.slashed_at (points_at p front c.requires) c.in_ok-slashed.ensures
    (sym c.in-Some-plain_at.is ∙ c.point_at-plain_at.ensures) (sym c.in-Some.is ∙ c.point_at.ensures)
    (omega (arith, c.if-plain_at-slashed_at.false))) c.point_of_two-2.ensures
