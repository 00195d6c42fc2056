use Rattle.std.proofs.Common.{List, ◌++◌, sym, ap, ◌∙◌}
use Rattle.std.proofs.lemmas.List.{append-nil}
use Rattle.ob_object.specs.Object.{Object}
use Rattle.ob_site_state.specs.Feeds.{feed_logs}
use Rattle.ob_site_state.specs.Stamping.{tree_of}
use Rattle.ob_tree.specs.Trees.{Stamped}
use Rattle.ob_watch.specs.Items.{is_due}
use Rattle.ob_site_watches.proofs.Due.{nothing_due}
use Rattle.ob_site_watches.proofs.Polled.{idle_steps, none_more}
use Rattle.ob_site_watches.proofs.entries.push_change.Goals as goal

pub returns-then-not-is_due-clause-entries : goal.returns-then-not-is_due-clause-entries
returns-then-not-is_due-clause-entries g c =
    sym (ap (λ (es : List Object). c.args.entries.now.items ++ es) (nothing_due c.args.state.now c.feeds_law.ensures c.args.item.now c.requires (sym (ap (λ (t : Stamped). is_due t (feed_logs c.args.state.now.now) c.args.item.now) c.tree.ensures.value) ∙ sym c.is_due.ensures ∙ c.if-not-is_due.true)) ∙ append-nil c.args.entries.now.items)

pub returns-then-not-is_due-clause-steps : goal.returns-then-not-is_due-clause-steps
returns-then-not-is_due-clause-steps g c =
    let idle = idle_steps c.args.state.now.plan c.args.state.now.now (tree_of c.args.state.now) (feed_logs c.args.state.now.now) c.args.item.now.path c.args.item.now.tracked (sym (ap (λ (t : Stamped). is_due t (feed_logs c.args.state.now.now) c.args.item.now) c.tree.ensures.value) ∙ sym c.is_due.ensures ∙ c.if-not-is_due.true) in
    none_more c.args.steps.now _ idle
