use Rattle.std.proofs.Common.{sym, ap, ◌∙◌}
use Rattle.ob_tree.specs.Laid.{paths}
use Rattle.ob_tree.specs.Paths.{place_of}
use Rattle.ob_tree.specs.Trees.{Stamped}
use Rattle.ob_site_reads.proofs.Nowhere.{starts_off}
use Rattle.ob_site_reads.proofs.ByRole.{derives}
use Rattle.ob_site_reads.proofs.owners.shown_by.Goals as goal

pub returns-then-not-begins_with : goal.returns-then-not-begins_with
returns-then-not-begins_with g c =
    λ here. starts_off c.args.state.now.plan c.args.state.now.now c.args.path.now c.args.owner.now (sym c.if-not-begins_with.ensures)

pub returns-in-Some-among : goal.returns-in-Some-among
returns-in-Some-among g c =
    derives c.args.state.now.plan c.args.state.now.now c.args.path.now c.args.owner.now c.in-Some.node.number c.deref.result.now c.in-Some-among.child.now c.in_ok-shown-in-Some-among.shown
    c.sound_law.ensures.sound.paths_differ (c.in-Some.ensures.place ∙ ap (λ (t : Stamped). place_of c.args.owner.now (paths t.root)) c.tree-tree.ensures.value) (c.deref.ensures.value ∙ c.in_ok-children.ensures) c.in-Some-among.ensures c.in_ok-shown-in-Some-among.ensures
