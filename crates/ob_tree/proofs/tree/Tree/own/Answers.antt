use Rattle.std.proofs.Common.{ap, sym, subst, ◌<◌, ℕ}
use Rattle.ob_tree.specs.Trees.{Stamped}
use Rattle.ob_tree.proofs.Leaves.{leaf_within, at_leaf, leaf_there, own_leaf}
use Rattle.ob_tree.proofs.tree.Tree.own.Goals as goal

pub index-requires : goal.index-requires
index-requires c =
    let a = c.self.inside in
    subst (λ (n : ℕ). c.args.id.number < n) (sym a.leaves.ok.0) (leaf_within c.args.self.now.root _ _ _ _ c.args.id.number c.self.invariant (ap (λ (t : Stamped). t.root) c.self.view_is) c.requires)

pub returns : goal.returns
returns c =
    let a = c.self.inside in
    let x = c.index.result.now in
    let e = ap (λ (t : Stamped). t.root) c.self.view_is in
    let lt = leaf_within c.args.self.now.root _ _ _ _ c.args.id.number c.self.invariant e c.requires in
    own_leaf x _ (leaf_there a.leaves.items c.args.id.number x c.self.invariant.leaves lt c.index.ensures) (at_leaf c.args.self.now.root _ _ _ _ c.args.id.number x c.self.invariant e c.requires c.index.ensures)
