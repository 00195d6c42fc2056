use Rattle.std.proofs.Common.{◌≡◌, ◌<◌, ◌∙◌, ◌-◌, ℕ, Bool, Some, None, cond, length, refl, ap, sym, subst}
use Rattle.std.proofs.lemmas.Bool.{lt-ltb}
use Rattle.std.proofs.lemmas.Option.{slice_get_read}
use Rattle.ob_object.specs.Object.{Object, parts}
use Rattle.ob_tree.specs.Laid.{said, object_of}
use Rattle.ob_tree.specs.Children.{place_at}
use Rattle.ob_tree.specs.Trees.{Stamped}
use Rattle.ob_tree.proofs.StandsFor.{spot_within}
use Rattle.ob_tree.proofs.Named.{place_before, place_behind, place_within}
use Rattle.ob_tree.proofs.tree.Tree.place.Goals as goal

pub index-spot-requires : goal.index-spot-requires
index-spot-requires c =
    let a = c.self.inside in
    subst (λ (n : ℕ). c.args.inside.number < n) (sym a.spots.ok.0) (spot_within _ c.args.self.now.root _ _ _ _ c.args.inside.number c.self.invariant.laid (ap (λ (t : Stamped). t.root) c.self.view_is) c.requires)

pub returns-then-id-inside : goal.returns-then-id-inside
returns-then-id-inside c = place_before c.args.self.now.root c.args.id.number c.args.inside.number c.requires c.if-id-inside.true

pub returns-then-spot-id : goal.returns-then-spot-id
returns-then-spot-id c =
    let a = c.self.inside in
    let o = object_of (said a.leaves.items) a.spots.items in
    let e : o ≡ c.args.self.now.root = ap (λ (t : Stamped). t.root) c.self.view_is in
    let within = spot_within o c.args.self.now.root _ _ _ _ c.args.inside.number c.self.invariant.laid e c.requires in
    subst (λ (x : Object). None ≡ place_at c.args.id.number c.args.inside.number x) e
    (place_behind o a.spots.items c.index-spot.result.now c.args.id.number c.args.inside.number c.self.invariant.laid.spots_are
    (slice_get_read a.spots.items (length a.spots.items) c.args.inside.number c.index-spot.result.now refl within c.index-spot.ensures)
    (subst (λ (x : Object). c.args.inside.number < parts x) (sym e) c.requires) c.if-spot-id.true)

pub returns-then-place-lt4294967296 : goal.returns-then-place-lt4294967296
returns-then-place-lt4294967296 c =
    let a = c.self.inside in
    let o = object_of (said a.leaves.items) a.spots.items in
    let e : o ≡ c.args.self.now.root = ap (λ (t : Stamped). t.root) c.self.view_is in
    let within = spot_within o c.args.self.now.root _ _ _ _ c.args.inside.number c.self.invariant.laid e c.requires in
    let k = c.args.id.number - c.args.inside.number in
    ap (λ (b : Bool). cond b (Some k) None) (sym (lt-ltb k 4294967296 c.if-place-lt4294967296.true))
    ∙ place_within o a.spots.items c.index-spot.result.now c.args.id.number c.args.inside.number c.self.invariant.laid.spots_are
    (slice_get_read a.spots.items (length a.spots.items) c.args.inside.number c.index-spot.result.now refl within c.index-spot.ensures)
    (subst (λ (x : Object). c.args.inside.number < parts x) (sym e) c.requires) c.if-id-inside.false c.if-spot-id.false
    ∙ ap (place_at c.args.id.number c.args.inside.number) e
