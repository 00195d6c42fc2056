use Rattle.std.proofs.Common.{◌≡◌, sym, ap, ◌∙◌, arith}
use Rattle.std.specs.Prelude.{is_some}
use Rattle.std.proofs.lemmas.Result.{IfOk-weaker}
use Rattle.ob_contracts.specs.Inherit.{or_else}
use Rattle.ob_site_rules.specs.State.{at}
use Rattle.ob_site_rules.specs.Places.{history_places}
use Rattle.ob_plain_state.specs.Parts.{history_parts}
use Rattle.ob_site_reads.proofs.Alone.{slashed_history, plain_history, neither_history, both_plain_history, both_slashed_history}
use Rattle.ob_site_reads.proofs.places.history_in.Goals as goal

pub returns-then-is_some : goal.returns-then-is_some
returns-then-is_some c =
    let plan = c.args.state.now.plan in
    let p = c.args.path.now in
    let plain = (ap is_some (sym c.history_at-plain_at.ensures) ∙ sym c.is_some.ensures ∙ c.if-is_some.true) in
    let slashed = (ap is_some (sym c.history_at.ensures ∙ c.in_default.is)) in
    IfOk-weaker c.one_history.result (λ place. place ≡ at p (history_parts c.args.parent.now)) (λ place. place ≡ at p (history_places plan))
    (λ place is. plain_history p c.args.parent.now c.in_ok-slashed.slashed plan.histories place c.requires c.in_ok-slashed.ensures plain slashed is) c.one_history.ensures

pub returns-in_default : goal.returns-in_default
returns-in_default c =
    let plan = c.args.state.now.plan in
    let plain = (ap is_some (sym c.history_at-plain_at.ensures) ∙ sym c.is_some.ensures ∙ c.if-is_some.false) in
    let slashed = (ap is_some (sym c.history_at.ensures ∙ c.in_default.is)) in
    neither_history c.args.path.now c.args.parent.now c.in_ok-slashed.slashed plan.histories c.requires c.in_ok-slashed.ensures plain slashed

pub returns-in_default-plain_at : goal.returns-in_default-plain_at
returns-in_default-plain_at c =
    let plan = c.args.state.now.plan in
    let p = c.args.path.now in
    let q = c.in_ok-slashed.slashed in
    let plain = (ap is_some (sym c.history_at-plain_at.ensures ∙ c.in_default-plain_at.is)) in
    let slashed = (ap is_some (sym c.history_at.ensures ∙ c.in-Some.is)) in
    IfOk-weaker c.one_history-in_default-plain_at.result (λ place. place ≡ at p (history_parts q)) (λ place. place ≡ at p (history_places plan))
    (λ place is. slashed_history p c.args.parent.now q plan.histories place c.requires c.in_ok-slashed.ensures plain slashed is) c.one_history-in_default-plain_at.ensures

pub returns-then-plain_at-slashed_at : goal.returns-then-plain_at-slashed_at
returns-then-plain_at-slashed_at c =
    let plan = c.args.state.now.plan in
    let p = c.args.path.now in
    let front = c.args.parent.now in
    let q = c.in_ok-slashed.slashed in
    IfOk-weaker c.history_of_two.result (λ place. place ≡ or_else (at p (history_parts front)) (at p (history_parts q))) (λ place. place ≡ at p (history_places plan))
    (λ place is. is ∙ both_plain_history p front q plan.histories c.in-Some-plain_at.plain_at c.in-Some.slashed_at c.requires c.in_ok-slashed.ensures
    (sym c.in-Some-plain_at.is ∙ c.history_at-plain_at.ensures) (sym c.in-Some.is ∙ c.history_at.ensures)
    (omega (arith, c.if-plain_at-slashed_at.true))) c.history_of_two.ensures

pub returns : goal.returns
returns c =
    let plan = c.args.state.now.plan in
    let p = c.args.path.now in
    let front = c.args.parent.now in
    let q = c.in_ok-slashed.slashed in
    IfOk-weaker c.history_of_two-2.result (λ place. place ≡ or_else (at p (history_parts q)) (at p (history_parts front))) (λ place. place ≡ at p (history_places plan))
    (λ place is. is ∙ both_slashed_history p front q plan.histories c.in-Some-plain_at.plain_at c.in-Some.slashed_at c.requires c.in_ok-slashed.ensures
    (sym c.in-Some-plain_at.is ∙ c.history_at-plain_at.ensures) (sym c.in-Some.is ∙ c.history_at.ensures)
    (omega (arith, c.if-plain_at-slashed_at.false))) c.history_of_two-2.ensures
