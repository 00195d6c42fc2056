use Rattle.std.proofs.Common.{sym, ap, ◌∙◌}
use Rattle.std.specs.List.{list_any}
use Rattle.ob_site_state.specs.Feeds.{feed_logs}
use Rattle.ob_site_state.specs.Stamping.{tree_of}
use Rattle.ob_tree.specs.Trees.{Stamped}
use Rattle.ob_watch.specs.Items.{is_due}
use Rattle.ob_site_watches.proofs.Polled.{none_more, none_steps}
use Rattle.ob_site_watches.proofs.entries.watch_changes.Goals as goal

pub returns-then-not-has_due-clause-steps : goal.returns-then-not-has_due-clause-steps
returns-then-not-has_due-clause-steps g c =
    let none_is = sym (ap (λ (t : Stamped). list_any (is_due t (feed_logs c.args.state.now.now)) c.args.watch.now.items) c.tree.ensures.value) ∙ sym c.has_due.ensures ∙ c.if-not-has_due.true in
    let none = none_steps c.args.state.now.plan c.args.state.now.now (tree_of c.args.state.now) (feed_logs c.args.state.now.now) c.args.watch.now.items none_is in
    none_more c.args.steps.now _ none
