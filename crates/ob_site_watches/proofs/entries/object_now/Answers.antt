use Rattle.std.proofs.Common.{sym, ap₂, ◌∙◌, subst}
use Rattle.std.proofs.lemmas.Result.{IfOk-weaker}
use Rattle.ob_watching.specs.Watches.{content_now}
use Rattle.ob_site_rules.specs.Build.{Text}
use Rattle.ob_site_rules.specs.Replies.{content_object}
use Rattle.ob_site_state.specs.Stamping.{tree_of}
use Rattle.ob_watch.specs.declared.item.Tracked.{Tracked}
use Rattle.ob_watch.specs.OfPlan.{of_plan}
use Rattle.ob_watch.specs.Flags.{flag_of}
use Rattle.ob_site_watches.specs.Known.{IsPlacedBy}
use Rattle.ob_site_watches.proofs.Polled.{both, reading_feed, reading_object, whatever}
use Rattle.ob_site_watches.proofs.entries.object_now.Goals as goal

pub returns-in-Feed-clause-object : goal.returns-in-Feed-clause-object
returns-in-Feed-clause-object g c =
    IfOk-weaker c.whole_feed.result _ _
    (λ o whole.
    whole c.in-Feed.given
    ∙ ap₂ (λ (p : Text) (k : Tracked). content_object (content_now (of_plan c.args.state.now.plan) c.args.state.now.now p (flag_of (tree_of c.args.state.now) k)))
    c.path.ensures (sym c.in-Feed.is ∙ c.tracked.ensures)) c.whole_feed.ensures

pub returns-in-Feed-clause-steps : goal.returns-in-Feed-clause-steps
returns-in-Feed-clause-steps g c =
    whatever c.whole_feed.result _
    (reading_feed c.args.state.now.plan c.args.state.now.now (tree_of c.args.state.now) c.args.item.now.path c.args.item.now.tracked _ _ _ c.args.steps.now
    (sym (sym c.in-Feed.is ∙ c.tracked.ensures)))

pub returns-in-Object-clause-steps : goal.returns-in-Object-clause-steps
returns-in-Object-clause-steps g c =
    let is = sym (sym c.in-Object.is ∙ c.tracked.ensures) in
    let placed = subst (λ (k : Tracked). IsPlacedBy c.args.state.now.now.tree c.args.item.now.path k) is c.requires in
    both c.watched_node.result
    (λ o read steps.
    reading_object c.args.state.now.plan c.args.state.now.now (tree_of c.args.state.now) c.args.item.now.path c.args.item.now.tracked _ _ o c.args.steps.now c.watched_node.new.steps
    is placed.0 (read c.args.item.now.path placed.0) (steps placed.1)) c.watched_node.ensures.object c.watched_node.ensures.steps
