use Rattle.std.proofs.Common.{◌≡◌, ◌∙◌, ap, sym}
use Rattle.ob_object.specs.Object.{Object}
use Rattle.ob_tree.specs.Paths.{place_of}
use Rattle.ob_tree.specs.Laid.{said, object_of, paths}
use Rattle.ob_tree.specs.Trees.{Stamped}
use Rattle.ob_tree.proofs.Within.{place_within}
use Rattle.ob_tree.proofs.tree.Tree.get.Goals as goal

pub returns-in-Some-clause-within : goal.returns-in-Some-clause-within
returns-in-Some-clause-within c =
    let a = c.self.inside in
    let e : object_of (said a.leaves.items) a.spots.items ≡ c.args.self.now.root = ap (λ (t : Stamped). t.root) c.self.view_is in
    place_within c.args.self.now.root c.as_str.result.now c.in-Some.place.now
    (ap (λ (o : Object). place_of c.as_str.result.now (paths o)) (sym e) ∙ sym (c.self.invariant.laid.found c.as_str.result.now) ∙ sym c.in-Some.ensures.value)
