use Rattle.std.proofs.Common.{map, sym, ap₂, ◌∙◌, subst}
use Rattle.std.proofs.lemmas.Result.{IfOk-weaker}
use Rattle.ob_watching.specs.Watches.{changes_of}
use Rattle.ob_site_rules.specs.Build.{Text}
use Rattle.ob_site_rules.specs.Replies.{content_object}
use Rattle.ob_site_state.specs.Feeds.{feed_logs}
use Rattle.ob_site_state.specs.Stamping.{tree_of}
use Rattle.ob_watch.specs.declared.item.Tracked.{Tracked}
use Rattle.ob_watch.specs.OfPlan.{of_plan}
use Rattle.ob_watch.specs.Flags.{flag_of}
use Rattle.ob_site_watches.specs.Known.{IsPlacedBy}
use Rattle.ob_site_watches.proofs.Polled.{feed_steps, object_steps, whatever}
use Rattle.ob_site_watches.proofs.entries.change_due.Goals as goal

pub returns-in-Feed-clause-content : goal.returns-in-Feed-clause-content
returns-in-Feed-clause-content g c =
    IfOk-weaker c.feed_since.result _ _
    (λ o since.
    since c.args.item.now.text
    ∙ ap₂ (λ (p : Text) (k : Tracked). map (λ r. content_object r.content) (changes_of (of_plan c.args.state.now.plan) c.args.state.now.now c.args.item.now.text p (flag_of (tree_of c.args.state.now) k)))
    c.path.ensures (sym c.in-Feed.is ∙ c.tracked.ensures)) c.feed_since.ensures

pub returns-in-Feed-clause-steps : goal.returns-in-Feed-clause-steps
returns-in-Feed-clause-steps g c =
    whatever c.feed_since.result _
    (feed_steps c.args.state.now.plan c.args.state.now.now (tree_of c.args.state.now) c.args.item.now.path c.args.item.now.tracked _ _ _ c.args.steps.now
    (sym (sym c.in-Feed.is ∙ c.tracked.ensures)))

pub returns-in_ok-object-in-Object-clause-steps : goal.returns-in_ok-object-in-Object-clause-steps
returns-in_ok-object-in-Object-clause-steps g c =
    let root = c.args.state.now.now.tree in
    let is = sym (sym c.in-Object.is ∙ c.tracked.ensures) in
    let placed = subst (λ (k : Tracked). IsPlacedBy root c.args.item.now.path k) is c.requires.placed in
    object_steps c.args.state.now.plan c.args.state.now.now (tree_of c.args.state.now) (feed_logs c.args.state.now.now) c.args.item.now.path c.args.item.now.tracked _ _ c.in_ok-object-in-Object.object c.args.steps.now c.watched_node.new.steps
    is c.requires.due placed.0 (c.in_ok-object-in-Object.ensures.object c.args.item.now.path placed.0) (c.in_ok-object-in-Object.ensures.steps placed.1)
