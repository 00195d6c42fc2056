use Rattle.std.proofs.Common.{Bool, refl, sym, ap, ◌∙◌, subst}
use Rattle.ob_alarms.specs.Changes.{State as Board}
use Rattle.ob_alarms.specs.declared.board.Turned.{Turned}
use Rattle.ob_site_rules.specs.State.{with_board}
use Rattle.ob_site_state.specs.Changes.{AddsEvent}
use Rattle.ob_site_state.specs.Contents.{state_in}
use Rattle.ob_site_state.proofs.Events.{value_event, value_keeps}
use Rattle.ob_site_state.proofs.contents.Contents.take_value.Goals as goal

pub returns-clause-event : goal.returns-clause-event
returns-clause-event c =
    let s = state_in c.args.self.now in
    let b = c.reserve.new.self in
    let new = c.on_value-turned.new.self in
    let stays = c.reserve.ensures.stays in
    subst (λ (x : Bool). AddsEvent x s (with_board s new)) (sym c.is_turn.ensures)
    (value_event s b new c.args.rule c.args.now c.args.value c.on_value-turned.result (ap (λ (x : Board). x.alarms) stays) (ap (λ (x : Board). x.events) stays) c.on_value-turned.ensures)

pub returns-clause-rest : goal.returns-clause-rest
returns-clause-rest c =
    let b = c.reserve.new.self in
    let kept = value_keeps b c.args.rule c.args.value c.args.now in
    let is = ap (λ (x : Board × Turned). x.0) c.on_value-turned.ensures in record {
      stamps = refl;
      steps = refl;
      root = ap (λ (x : Board). x.root) is ∙ kept.0 ∙ ap (λ (x : Board). x.root) c.reserve.ensures.stays;
      rules = ap (λ (x : Board). x.rules) is ∙ kept.1 ∙ ap (λ (x : Board). x.rules) c.reserve.ensures.stays;
      roles = refl;
    }
