use Rattle.std.proofs.Common.{refl, sym, ap, ◌∙◌, subst}
use Rattle.ob_object.specs.declared.head.Head.{Head}
use Rattle.ob_object.specs.Object.{Object}
use Rattle.ob_tree.specs.Children.{AreNumbered}
use Rattle.ob_tree.specs.Laid.{changed}
use Rattle.ob_tree.specs.Trees.{Stamped}
use Rattle.ob_ground.specs.Grounds.{Grounded, WordsStand}
use Rattle.ob_tree.proofs.Numbered.{numbered_changed}
use Rattle.ob_ground.proofs.Telling.{told_set}
use Rattle.ob_ground.proofs.ground.Ground.set.Goals as goal

pub invariant_of-self : goal.invariant_of-self
invariant_of-self c =
    let t = c.self.inside in
    let slot = c.args.slot in
    let n = c.args.id.number in
    subst (λ (o : Object). WordsStand o t.told × AreNumbered o t.numbers) (sym (ap (λ (s : Stamped). s.root) c.set.ensures.new))
    (told_set slot n t.tree.root t.told c.self.invariant.0, numbered_changed (λ h. record h { slot = slot }) (λ h. refl) t.tree.root n t.numbers c.self.invariant.1)

pub returns-clause-new : goal.returns-clause-new
returns-clause-new c =
    ap (λ (s : Stamped). let g : Grounded = record { library = c.self.inside.told.library; tree = s } in g) c.set.ensures.new
    ∙ ap (λ (g : Grounded). let x : Grounded = record g { tree = record g.tree { root = changed (λ (h : Head). record h { slot = c.args.slot }) c.args.id.number g.tree.root } } in x) c.self.view_is
