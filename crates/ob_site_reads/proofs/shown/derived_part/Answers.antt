use Rattle.std.proofs.Common.{ap, ◌∙◌}
use Rattle.ob_shown_laws.specs.Alike.{row}
use Rattle.ob_tree.specs.Shown.{part_at}
use Rattle.ob_tree.specs.Trees.{Stamped}
use Rattle.ob_site_reads.proofs.Frees.{free_part}
use Rattle.ob_site_reads.proofs.shown.derived_part.Goals as goal

pub dress-requires : goal.dress-requires
dress-requires c =
    free_part c.args.state.now.plan c.args.state.now.now c.args.node.number (row c.args.state.now.now.tree) c.in_ok-own.own
    c.sound_law.ensures.sound.consistent.names_free (c.in_ok-own.ensures ∙ ap (λ (t : Stamped). part_at c.args.node.number t.root) c.tree.ensures.value)
