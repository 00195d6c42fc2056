use Rattle.std.proofs.Common.{◌≡◌, Some, sym, ap, ◌∙◌}
use Rattle.std.proofs.lemmas.Result.{IfOk-weaker}
use Rattle.ob_object.specs.Object.{Object}
use Rattle.ob_tree.specs.Laid.{paths}
use Rattle.ob_tree.specs.Paths.{place_of}
use Rattle.ob_site_rules.specs.Build.{Path}
use Rattle.ob_site_rules.specs.Places.{reply_at}
use Rattle.ob_site_rules.specs.State.{State}
use Rattle.ob_site_rules.specs.Writes.{showing, written}
use Rattle.ob_site_state.specs.Kept.{Kept}
use Rattle.ob_site_actions.proofs.Taking.{node_within}
use Rattle.ob_site_actions.specs.Stops.{IsDone}
use Rattle.ob_site_actions.proofs.OwnNodes.{paths_written}
use Rattle.ob_site_actions.proofs.own.show_own.Goals as goal

pub own_reply-requires : goal.own_reply-requires
own_reply-requires g c =
    let k = c.args.state.now in
    let p = c.args.at.path.now in
    let is = c.in_ok-write_if_changed.ensures.ok c.args.own.now (sym c.head.ensures.value) in
    node_within c.write_if_changed.new.state.now.tree p c.args.at.node.number
    (ap (λ (x : Kept). place_of p (paths x.now.tree)) is ∙ ap (place_of p) (paths_written k.plan k.time p c.args.own.now c.args.slot.now k.now) ∙ c.requires.place)

pub returns-clause-ok : goal.returns-clause-ok
returns-clause-ok g c =
    let k = c.args.state.now in
    let t = c.write_if_changed.new.state in
    let p = c.args.at.path.now in
    let n = c.args.at.node.number in
    let made : State = written k.plan k.time p c.args.own.now c.args.slot.now k.now in
    let is = c.in_ok-write_if_changed.ensures.ok c.args.own.now (sym c.head.ensures.value) in
    let place : place_of p (paths t.now.tree) ≡ Some n = ap (λ (x : Kept). place_of p (paths x.now.tree)) is ∙ ap (place_of p) (paths_written k.plan k.time p c.args.own.now c.args.slot.now k.now) ∙ c.requires.place in
    IfOk-weaker c.own_reply.result (λ reply. (q : Path) (d : Object) → place_of q (paths t.now.tree) ≡ Some n → reply ≡ reply_at t.plan t.now q d) (λ reply. (d : Object) → IsDone k t (showing k.plan p d made) reply)
    (λ reply shows d. record { after = is; answer = shows p d place ∙ ap (λ (x : Kept). reply_at x.plan x.now p d) is }) c.own_reply.ensures
