use Rattle.std.proofs.Common.{◌∙◌, ap}
use Rattle.std.specs.List.{list_any}
use Rattle.ob_site.specs.Noted.{is_otherwise}
use Rattle.ob_site.proofs.Noted.{changed_so}
use Rattle.ob_tree.specs.Trees.{Stamped}
use Rattle.ob_site.proofs.changed.has_changed.Goals as goal

pub returns : goal.returns
returns c =
    let k = c.args.state.now in
    let cs = c.changes.result.now in
    changed_so k.plan cs k.before k.now _ (c.is_any_otherwise.ensures ∙ ap (λ (t : Stamped). list_any (is_otherwise cs t.root) cs) c.tree.ensures.value)
    c.changes.ensures.can c.changes.ensures.told c.changes.ensures.before c.requires.made_before c.requires.made
