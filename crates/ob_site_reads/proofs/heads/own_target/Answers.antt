use Rattle.std.proofs.Common.{ap, ◌∙◌}
use Rattle.ob_contracts.specs.Shown.{shown as shown_by}
use Rattle.ob_tree.specs.Laid.{paths}
use Rattle.ob_tree.specs.Paths.{place_of}
use Rattle.ob_tree.specs.Trees.{Stamped}
use Rattle.ob_site_reads.proofs.OwnHeads.{own_shows_target}
use Rattle.ob_site_reads.proofs.heads.own_target.Goals as goal

pub returns-then-fits : goal.returns-then-fits
returns-then-fits g c =
    own_shows_target c.args.state.now.plan c.args.state.now.now c.args.path.now c.in-Some.node.number (shown_by c.view.result) c.from_attributes.result
    c.in_ok-head.head c.sound_law.ensures.sound.paths_differ (c.in-Some.ensures.place ∙ ap (λ (t : Stamped). place_of c.args.path.now (paths t.root)) c.tree-tree.ensures.value)
    c.view.ensures.view c.in_ok-head.ensures c.from_attributes.ensures
