use Rattle.std.proofs.Common.{sym, ap, ◌∙◌}
use Rattle.ob_tree.specs.Laid.{paths}
use Rattle.ob_tree.specs.Paths.{place_of}
use Rattle.ob_tree.specs.Trees.{Stamped}
use Rattle.ob_site_actions.proofs.own.put_own.Goals as goal

pub put_at-requires : goal.put_at-requires
put_at-requires g c = sym (c.in-Some.ensures.place ∙ ap (λ (t : Stamped). place_of c.args.path.now (paths t.root)) c.tree.ensures.value)
