use Rattle.std.proofs.Common.{ap, ◌∙◌}
use Rattle.ob_tree.specs.Contexts.{comes_to}
use Rattle.ob_tree.specs.Standings.{context}
use Rattle.ob_tree.specs.Shown.{standing_at}
use Rattle.ob_tree.specs.Trees.{Stamped}
use Rattle.ob_site_reads.proofs.Stands.{stands}
use Rattle.ob_site_settling.proofs.Walked.{shown_before}
use Rattle.ob_site_settling.proofs.otherwise.both_shown.Goals as goal

pub returns-clause-before : goal.returns-clause-before
returns-clause-before g c =
    shown_before c.args.state.now.plan c.args.state.now.now c.args.old.now c.args.root.number (context c.standing-before.result) c.in_ok-dressed.dressed c.in_ok-old_root.old_root
    (c.standing-before.ensures.stands ∙ ap (λ (t : Stamped). standing_at c.args.old.now c.args.root.number t.root) c.tree.ensures.value) c.in_ok-dressed.ensures (c.in_ok-old_root.ensures.whole ∙ ap (comes_to (context c.standing-before.result)) c.in_ok-copy.ensures)

pub returns-clause-after : goal.returns-clause-after
returns-clause-after g c =
    stands c.args.state.now.plan c.args.state.now.now c.args.root.number (context c.standing-after.result) c.in_ok-dressed.dressed c.in_ok-new_root.new_root
    c.standing-after.ensures.stands c.in_ok-dressed.ensures c.in_ok-new_root.ensures.whole
