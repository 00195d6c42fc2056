use Rattle.std.proofs.Common.{Bool, true, sym, List, ◌++◌, ◌∷◌, [], refl, ap, ◌∙◌, subst}
use Rattle.ob_alarms.specs.Changes.{State as Board, on_value}
use Rattle.ob_alarms.specs.Limits.{Takes}
use Rattle.ob_alarms.specs.States.{status_of}
use Rattle.ob_alarms.specs.declared.rule.Rule.{Rule}
use Rattle.ob_site_rules.specs.State.{State, numbered_from, board, with_board}
use Rattle.ob_site_state.specs.declared.change.Change.{Change}
use Rattle.ob_site_state.specs.declared.change.Change.TheVariants as change
use Rattle.ob_site_state.specs.Changes.{rewound, AddsEvent}
use Rattle.ob_site_state.specs.Contents.{state_in}
use Rattle.ob_site_state.specs.Kept.{Kept}
use Rattle.ob_site_state.specs.States.{kept}
use Rattle.ob_site_state.proofs.Events.{board_is, value_spare}
use Rattle.ob_site_state.proofs.Noting.{event_noted, before_as, seen_as}
use Rattle.ob_site_state.proofs.Newest.{value_newest}
use Rattle.ob_site_state.proofs.Statuses.{value_told}
use Rattle.ob_site_state.proofs.Storing.{tallied_as}
use Rattle.ob_site_state.proofs.Rests.{roles_stay}
use Rattle.ob_site_state.specs.OwnContracts.{IsBound}
use Rattle.ob_site_state.proofs.OwnContracts.{bound_as}
use Rattle.ob_site_state.proofs.state.State.take_value.Goals as goal

pub invariant_of-self-then-is_event : goal.invariant_of-self-then-is_event
invariant_of-self-then-is_event c =
    let a = c.self.inside in
    let s = state_in a.contents in
    let t = state_in c.take_value.new.self in
    let rest = c.take_value.ensures.rest in
    let items = c.push_reserved.new.self.items in
    let ch : Change = change.Event c.args.rule c.status_of-status.result in
    let adds = subst (λ (b : Bool). AddsEvent b s t) c.if-is_event.true c.in_ok-is_event.ensures.event in record {
      kept =
          event_noted a.plan a.time s t a.contents.board c.take_value.new.self.board (on_value a.contents.board c.args.rule c.args.value a.time).0 a.since a.found.items c.push_reserved.new.self.items c.args.rule c.status_of-status.result c.self.invariant.kept rest.root rest.rules c.in_ok-is_event.ensures.ok
          (subst (λ (b : Bool). AddsEvent b s t) c.if-is_event.true c.in_ok-is_event.ensures.event) (
            c.status_of-status.ensures ∙ ap (λ (rs : List Rule). status_of rs s.alarms c.args.rule) c.self.invariant.kept.rules,
            value_told a.plan.rules a.contents.board c.args.rule c.args.value a.time,
            value_newest a.plan s a.contents.board c.args.rule c.args.value a.time (subst (λ (k : Kept). Takes (numbered_from 0 k.plan.rules) c.args.rule c.args.value) (sym c.self.view_is) c.requires) refl
                (subst (λ (x : State). AddsEvent true s x) c.in_ok-is_event.ensures.ok adds),
          )
          (c.push_reserved.ensures.items ∙ ap (λ (l : List Change). l ++ ch ∷ []) c.reserve.ensures.items);
      tallied =
          tallied_as a.tally s.logs (rewound a.found.items s).logs t.logs (rewound items t).logs
          (ap (λ (x : State). x.logs) c.in_ok-is_event.ensures.ok)
          (ap (λ (x : State). x.logs)
          (before_as s t a.found.items items ch adds.1 (c.push_reserved.ensures.items ∙ ap (λ (l : List Change). l ++ ch ∷ []) c.reserve.ensures.items)))
          c.self.invariant.tallied;
      growing = c.self.invariant.growing;
      roles = roles_stay a.plan a.contents c.take_value.new.self rest.roles c.self.invariant.roles;
      bound = bound_as a.own s t (ap (λ (x : State). x.library) c.in_ok-is_event.ensures.ok) (ap (λ (x : State). x.tree) c.in_ok-is_event.ensures.ok) c.self.invariant.bound;
      bound_before =
          subst (IsBound a.own)
          (sym (before_as s t a.found.items items ch adds.1 (c.push_reserved.ensures.items ∙ ap (λ (l : List Change). l ++ ch ∷ []) c.reserve.ensures.items)))
          c.self.invariant.bound_before;
    }

pub returns-then-is_event-clause-ok : goal.returns-then-is_event-clause-ok
returns-then-is_event-clause-ok c =
    let a = c.self.inside in
    let s = state_in a.contents in
    let t = state_in c.take_value.new.self in
    let items = c.push_reserved.new.self.items in
    let ch : Change = change.Event c.args.rule c.status_of-status.result in
    let rest = c.take_value.ensures.rest in
    let adds = subst (λ (b : Bool). AddsEvent b s t) c.if-is_event.true c.in_ok-is_event.ensures.event in
    seen_as (kept a) c.args.self.now (λ k. with_board k.now (on_value (board k.plan k.now) c.args.rule c.args.value k.time).0) t (rewound items t) c.take_value.new.self.ground.tree.stamps c.take_value.new.self.ground.tree.steps c.self.view_is
    (c.in_ok-is_event.ensures.ok
    ∙ ap (λ (x : Board). with_board s (on_value x c.args.rule c.args.value a.time).0) (board_is a.plan s a.contents.board c.self.invariant.kept.root c.self.invariant.kept.rules refl refl)
    ∙ value_spare s (board a.plan s) a.contents.board.spare c.args.rule c.args.value a.time)
    (before_as s t a.found.items items ch adds.1 (c.push_reserved.ensures.items ∙ ap (λ (l : List Change). l ++ ch ∷ []) c.reserve.ensures.items))
    rest.stamps rest.steps
