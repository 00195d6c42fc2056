use Rattle.std.proofs.Common.{ap, sym, ◌∙◌, subst, ◌<◌, ℕ}
use Rattle.ob_tree.specs.Trees.{Stamped}
use Rattle.std.proofs.Common.{◌≡◌, [], Some, length, refl}
use Rattle.std.proofs.lemmas.Option.{slice_get_read}
use Rattle.ob_object.specs.Object.{Object, parts}
use Rattle.ob_tree.specs.Laid.{said, object_of}
use Rattle.ob_tree.proofs.Contexts.{parent_before, parent_read}
use Rattle.ob_tree.proofs.StandsFor.{spot_within, at_spot}
use Rattle.ob_tree.proofs.tree.Tree.parent.Goals as goal

pub index-requires : goal.index-requires
index-requires c =
    let a = c.self.inside in
    subst (λ (n : ℕ). c.args.id.number < n) (sym a.spots.ok.0) (spot_within _ c.args.self.now.root _ _ _ _ c.args.id.number c.self.invariant.laid (ap (λ (t : Stamped). t.root) c.self.view_is) c.requires)

pub returns-in-Some-clause-parent : goal.returns-in-Some-clause-parent
returns-in-Some-clause-parent c =
    sym (at_spot _ c.args.self.now.root _ _ _ _ c.args.id.number c.index.result.now c.self.invariant.laid (ap (λ (t : Stamped). t.root) c.self.view_is) c.requires c.index.ensures ∙ c.in-Some.is)

pub returns-in-None-clause-parent : goal.returns-in-None-clause-parent
returns-in-None-clause-parent c =
    sym (at_spot _ c.args.self.now.root _ _ _ _ c.args.id.number c.index.result.now c.self.invariant.laid (ap (λ (t : Stamped). t.root) c.self.view_is) c.requires c.index.ensures ∙ c.in-None.is)

pub returns-in-Some-clause-within : goal.returns-in-Some-clause-within
returns-in-Some-clause-within c =
    let a = c.self.inside in
    let o = object_of (said a.leaves.items) a.spots.items in
    let e : o ≡ c.args.self.now.root = ap (λ (t : Stamped). t.root) c.self.view_is in
    let within = spot_within o c.args.self.now.root _ _ _ _ c.args.id.number c.self.invariant.laid e c.requires in
    parent_before [] o a.spots.items c.args.id.number c.in-Some.place c.self.invariant.laid.spots_are (subst (λ (x : Object). c.args.id.number < parts x) (sym e) c.requires)
    (parent_read a.spots.items c.args.id.number c.index.result.now (Some c.in-Some.place) (slice_get_read a.spots.items (length a.spots.items) c.args.id.number c.index.result.now refl within c.index.ensures) c.in-Some.is)
