use Rattle.std.proofs.Common.{Option, sym, ap, ◌∙◌, subst}
use Rattle.std.specs.Option.{option_copied}
use Rattle.ob_object.specs.Object.{Object}
use Rattle.ob_tree.specs.Shown.{standing_at}
use Rattle.ob_tree.specs.Trees.{Stamped}
use Rattle.ob_ground.specs.Grounds.{Taught, WordsStand}
use Rattle.ob_site_settling.specs.Telling.{replaced_or, TellsOf}
use Rattle.ob_site_settling.proofs.changes.standing_before.Goals as goal

pub standing-requires-clause-told : goal.standing-requires-clause-told
standing-requires-clause-told g c =
    subst (λ (o : Object). WordsStand o c.in-Some.told.now) (sym (ap (λ (t : Stamped). t.root) c.tree.ensures.value))
    (subst (λ (t : Option Taught). TellsOf t c.args.state.now.now) (ap (λ r. option_copied r) c.in-Some.is) c.requires.told)

pub returns-in-Some : goal.returns-in-Some
returns-in-Some g c =
    c.standing.ensures.stands ∙ ap (λ (t : Stamped). standing_at c.in-Some.told.now.library c.args.node.number t.root) c.tree.ensures.value
    ∙ ap (λ r. standing_at (replaced_or (option_copied r) c.args.state.now.now) c.args.node.number c.args.state.now.now.tree) (sym c.in-Some.is)

pub returns-in-None : goal.returns-in-None
returns-in-None g c =
    c.standing-in-None.ensures.stands ∙ ap (λ r. standing_at (replaced_or (option_copied r) c.args.state.now.now) c.args.node.number c.args.state.now.now.tree) (sym c.in-None.is)
