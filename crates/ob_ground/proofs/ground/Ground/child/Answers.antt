use Rattle.std.proofs.Common.{◌≡◌, ℕ, ◌<◌, List, Option, Some, None, sym, ap, ◌∙◌}
use Rattle.std.specs.Prelude.{option_map, IfSome}
use Rattle.ob_object.specs.Object.{Object, parts}
use Rattle.ob_tree.specs.declared.node.NodeId.{NodeId}
use Rattle.ob_tree.specs.Children.{child_at}
use Rattle.ob_tree.proofs.Named.{child_within}
use Rattle.ob_ground.specs.Grounds.{Grounded}
use Rattle.ob_ground.proofs.ground.Ground.child.Goals as goal

pub returns-in-Some-clause-child : goal.returns-in-Some-clause-child
returns-in-Some-clause-child c =
    let n = c.args.id.number in
    c.number_of.ensures
    ∙ c.self.invariant.1 n c.in-Some.numbers.now (sym c.in-Some.ensures.value) c.args.name.now
    ∙ ap (λ (g : Grounded). child_at n c.args.name.now g.tree.root) c.self.view_is

-- a number that is told is one of the tree's
within : (o : Object) (n : ℕ) (name : List ℕ) (r : Option NodeId) → n < parts o → option_map (λ (id : NodeId). id.number) r ≡ child_at n name o → IfSome r (λ id. id.number < parts o)
within o n name None lt e = tt
within o n name (Some id) lt e = child_within o n name id.number lt (sym e)

pub returns-in-Some-clause-within : goal.returns-in-Some-clause-within
returns-in-Some-clause-within c =
    within c.args.self.now.tree.root c.args.id.number c.args.name.now c.number_of.result c.requires (returns-in-Some-clause-child c)
