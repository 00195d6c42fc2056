use Rattle.std.proofs.Common.{option_map, ap, ◌∙◌}
use Rattle.ob_tree.specs.Laid.{head_at, leaf, paths}
use Rattle.ob_tree.specs.Paths.{place_of}
use Rattle.ob_tree.specs.Trees.{Stamped}
use Rattle.ob_site_reads.proofs.OwnHeads.{own_shows_kind}
use Rattle.ob_site_reads.proofs.heads.own_kind.Goals as goal

pub returns-in-Some : goal.returns-in-Some
returns-in-Some c =
    own_shows_kind c.args.state.now.plan c.args.state.now.now c.args.path.now c.in-Some.node.number c.own.result.now c.kind.result c.sound_law.ensures.sound.paths_differ
    (c.in-Some.ensures.place ∙ ap (λ (t : Stamped). place_of c.args.path.now (paths t.root)) c.tree-tree.ensures.value)
    (c.own.ensures ∙ ap (λ (t : Stamped). option_map leaf (head_at c.in-Some.node.number t.root)) c.tree-tree.ensures.value) c.kind.ensures
