use Rattle.std.proofs.Common.{ℕ, List, Option, refl, subst}
use Rattle.ob_alarms.specs.Changes.{on_ack}
use Rattle.ob_site_rules.specs.State.{board}
use Rattle.ob_site_state.specs.Changes.{HasEvents}
use Rattle.ob_site_state.specs.Contents.{state_in}
use Rattle.ob_site_state.specs.Kept.{Kept}
use Rattle.ob_site_state.proofs.Events.{ack_has}
use Rattle.ob_site_state.proofs.state.State.would_ack.Goals as goal

pub returns : goal.returns
returns c =
    let a = c.self.inside in
    subst (λ (k : Kept). (user : Option (List ℕ)) → HasEvents c.would_ack.result k.now (on_ack (board k.plan k.now) c.args.number user k.time).0) c.self.view_is
    (λ user. ack_has a.plan (state_in a.contents) a.contents.board c.args.number user a.time c.would_ack.result c.self.invariant.kept.root c.self.invariant.kept.rules refl refl (c.would_ack.ensures user a.time))
