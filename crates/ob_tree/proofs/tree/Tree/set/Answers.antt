use Rattle.std.proofs.Common.{◌≡◌, ap, sym, ◌∙◌, subst, ◌<◌, ℕ, IsTrue, refl, Some}
use Rattle.std.specs.Prelude.{option_map}
use Rattle.ob_object.specs.declared.head.Head.{Head}
use Rattle.ob_object.specs.Fits.{fits_head}
use Rattle.ob_object.specs.Object.{parts}
use Rattle.ob_tree.specs.Trees.{Stamped}
use Rattle.ob_tree.specs.Laid.{object_of, said, head_at}
use Rattle.ob_tree.proofs.Changing.{parts-changed}
use Rattle.ob_tree.proofs.Naming.{slot_fits, head_fits_at}
use Rattle.ob_tree.proofs.StandsFor.{same_tree}
use Rattle.ob_tree.proofs.Leaves.{leaf_within, at_leaf, kept, stands_kept, others_stay}
use Rattle.ob_tree.proofs.tree.Tree.set.Goals as goal

pub index_mut-requires : goal.index_mut-requires
index_mut-requires c =
    let a = c.self.inside in
    subst (λ (n : ℕ). c.args.id.number < n) (sym a.leaves.ok.0) (leaf_within c.args.self.now.root _ _ _ _ c.args.id.number c.self.invariant (ap (λ (t : Stamped). t.root) c.self.view_is) c.requires.within)

pub replace_slot-requires : goal.replace_slot-requires
replace_slot-requires c =
    record {
      fits = c.requires.fits c.index_mut.result.now.head (at_leaf c.args.self.now.root _ _ _ _ c.args.id.number c.index_mut.result.now c.self.invariant (ap (λ (t : Stamped). t.root) c.self.view_is) c.requires.within c.index_mut.ensures.value);
    }

pub invariant_of-self : goal.invariant_of-self
invariant_of-self c =
    let a = c.self.inside in
    let n = c.args.id.number in
    let x = c.index_mut.result.now in
    let o = object_of (said a.leaves.items) a.spots.items in
    let e : o ≡ c.args.self.now.root = ap (λ (t : Stamped). t.root) c.self.view_is in
    let there : head_at n c.args.self.now.root ≡ Some x.head = at_leaf c.args.self.now.root _ _ _ _ n x c.self.invariant e c.requires.within c.index_mut.ensures.value in
    let fits : IsTrue (fits_head x.head) = head_fits_at o x.head n c.self.invariant.laid.well_formed (ap (head_at n) e ∙ there) in
    kept (λ (h : Head). record h { slot = c.args.slot }) n c.args.self.now.root a.leaves.items x c.replace_slot.new.self _ _ _ (λ h. refl) refl (slot_fits x.head c.args.slot (c.requires.fits x.head there) fits) c.self.invariant e c.requires.within c.index_mut.ensures.value c.replace_slot.ensures.new

pub returns-clause-old : goal.returns-clause-old
returns-clause-old c =
    let there = at_leaf c.args.self.now.root _ _ _ _ c.args.id.number c.index_mut.result.now c.self.invariant (ap (λ (t : Stamped). t.root) c.self.view_is) c.requires.within c.index_mut.ensures.value in
    ap (λ x. Some x) c.replace_slot.ensures.old ∙ ap (option_map (λ (h : Head). h.slot)) (sym there)

pub returns-clause-new : goal.returns-clause-new
returns-clause-new c =
    let a = c.self.inside in
    let e : object_of (said a.leaves.items) a.spots.items ≡ c.args.self.now.root = ap (λ (t : Stamped). t.root) c.self.view_is in
    same_tree _ _ _ _ _ _
    (stands_kept (λ (h : Head). record h { slot = c.args.slot }) c.args.id.number c.args.self.now.root a.leaves.items c.index_mut.result.now c.replace_slot.new.self _ _ _ c.self.invariant e c.requires.within c.index_mut.ensures.value c.replace_slot.ensures.new)
    (ap (λ (t : Stamped). t.stamps) c.self.view_is) (ap (λ (t : Stamped). t.steps) c.self.view_is)

pub returns-clause-len : goal.returns-clause-len
returns-clause-len c = ap (λ (t : Stamped). parts t.root) (returns-clause-new c) ∙ parts-changed (λ (h : Head). record h { slot = c.args.slot }) c.args.id.number c.args.self.now.root

pub returns-clause-others : goal.returns-clause-others
returns-clause-others c = λ k other.
    let there = at_leaf c.args.self.now.root _ _ _ _ c.args.id.number c.index_mut.result.now c.self.invariant (ap (λ (t : Stamped). t.root) c.self.view_is) c.requires.within c.index_mut.ensures.value in
    others_stay (λ (h : Head). record h { slot = c.args.slot }) c.args.id.number k c.args.self.now.root _ c.index_mut.result.now.head there (ap (λ (t : Stamped). t.root) (returns-clause-new c)) other
