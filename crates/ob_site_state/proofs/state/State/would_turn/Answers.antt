use Rattle.std.proofs.Common.{refl, subst}
use Rattle.ob_alarms.specs.Changes.{on_value}
use Rattle.ob_site_rules.specs.State.{board}
use Rattle.ob_site_state.specs.Changes.{HasEvents}
use Rattle.ob_site_state.specs.Contents.{state_in}
use Rattle.ob_site_state.specs.Kept.{Kept}
use Rattle.ob_site_state.proofs.Events.{value_has}
use Rattle.ob_site_state.proofs.state.State.would_turn.Goals as goal

pub returns : goal.returns
returns c =
    let a = c.self.inside in
    subst (λ (k : Kept). HasEvents c.would_turn.result k.now (on_value (board k.plan k.now) c.args.rule c.args.value.now k.time).0) c.self.view_is
    (value_has a.plan (state_in a.contents) a.contents.board c.args.rule c.args.value.now a.time c.would_turn.result c.self.invariant.kept.root c.self.invariant.kept.rules refl refl (c.would_turn.ensures a.time))
