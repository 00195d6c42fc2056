use Rattle.std.proofs.Common.{◌≡◌, ◌<◌, List, ◌++◌, ◌∷◌, [], Some, false, IsTrue, sym, ap, ◌∙◌, subst}
use Rattle.ob_object.specs.declared.head.Head.{Head}
use Rattle.ob_object.specs.Fits.{fits_slot}
use Rattle.ob_object.specs.Object.{parts}
use Rattle.ob_tree.specs.Laid.{head_at, paths}
use Rattle.ob_tree.specs.Paths.{place_of}
use Rattle.ob_site_rules.specs.Build.{Path}
use Rattle.ob_site_rules.specs.Writes.{is_in_contract}
use Rattle.ob_site_rules.specs.State.{State}
use Rattle.ob_site_state.specs.declared.change.Change.{Change}
use Rattle.ob_site_state.specs.declared.change.Change.TheVariants as change
use Rattle.ob_site_state.specs.Contents.{state_in}
use Rattle.ob_site_state.specs.Kept.{Kept}
use Rattle.ob_site_state.specs.States.{kept}
use Rattle.ob_site_state.specs.Changes.{rewound, IsNode}
use Rattle.ob_site_state.proofs.Noting.{slot_noted, slot_back, before_as, seen_as}
use Rattle.ob_site_state.proofs.Storing.{tallied_as}
use Rattle.ob_site_state.proofs.Rests.{roles_stay}
use Rattle.ob_site_state.specs.OwnContracts.{IsBound, with_slot_at}
use Rattle.ob_site_state.proofs.Renewed.{alone_set, set_bound}
use Rattle.ob_site_state.proofs.state.State.set_alone.Goals as goal

pub invariant_of-self-2 : goal.invariant_of-self-2
invariant_of-self-2 c =
    let a = c.self.inside in
    let s = state_in a.contents in
    let ch : Change = change.Slot c.args.node c.set-before.result in
    let rest = c.set-before.ensures.rest in
    let items = c.push_reserved.new.self.items in
    let t = state_in c.set-before.new.self in
    let within : c.args.node.number < parts s.tree = subst (λ (k : Kept). c.args.node.number < parts k.now.tree) (sym c.self.view_is) c.requires.within in
    let path : IsNode c.args.node.number s.tree = subst (λ (k : Kept). IsNode c.args.node.number k.now.tree) (sym c.self.view_is) c.requires.node in
    let is : t ≡ with_slot_at c.args.node.number c.args.slot s =
    alone_set a.own s c.args.node.number c.args.slot path.0 c.self.invariant.bound c.self.invariant.kept.differ path.1 t c.set-before.ensures.new
    (subst (λ (k : Kept). (p : Path) → place_of p (paths k.now.tree) ≡ Some c.args.node.number → is_in_contract p k.now.tree ≡ false) (sym c.self.view_is) c.requires.alone path.0 path.1) in record {
      kept =
          slot_noted a.plan a.time s (state_in c.set-before.new.self) a.contents.board c.set-before.new.self.board a.since a.found.items c.push_reserved.new.self.items c.args.node c.set-before.result c.args.slot c.self.invariant.kept rest.root rest.rules
          (subst (λ (k : Kept). IsNode c.args.node.number k.now.tree) (sym c.self.view_is) c.requires.node)
          (subst (λ (k : Kept). c.args.node.number < parts k.now.tree) (sym c.self.view_is) c.requires.within)
          (subst (λ (k : Kept). (h : Head) → head_at c.args.node.number k.now.tree ≡ Some h → IsTrue (fits_slot h.kind c.args.slot)) (sym c.self.view_is) c.requires.fits)
          c.set-before.ensures.old c.set-before.ensures.new
          (c.push_reserved.ensures.items ∙ ap (λ (l : List Change). l ++ ch ∷ []) c.reserve.ensures.items);
      tallied =
          tallied_as a.tally s.logs (rewound a.found.items s).logs t.logs (rewound items t).logs
          (ap (λ (x : State). x.logs) c.set-before.ensures.new)
          (ap (λ (x : State). x.logs)
          (before_as s t a.found.items items ch (slot_back s t c.args.node c.set-before.result c.args.slot within c.set-before.ensures.old c.set-before.ensures.new)
          (c.push_reserved.ensures.items ∙ ap (λ (l : List Change). l ++ ch ∷ []) c.reserve.ensures.items)))
          c.self.invariant.tallied;
      growing = c.self.invariant.growing;
      roles = roles_stay a.plan a.contents c.set-before.new.self rest.roles c.self.invariant.roles;
      bound = set_bound a.own s c.args.node.number c.args.slot path.0 c.self.invariant.bound c.self.invariant.kept.differ path.1 t is;
      bound_before =
          subst (IsBound a.own)
          (sym (before_as s t a.found.items items ch (slot_back s t c.args.node c.set-before.result c.args.slot within c.set-before.ensures.old c.set-before.ensures.new)
          (c.push_reserved.ensures.items ∙ ap (λ (l : List Change). l ++ ch ∷ []) c.reserve.ensures.items)))
          c.self.invariant.bound_before;
    }

pub returns-clause-ok : goal.returns-clause-ok
returns-clause-ok c =
    let a = c.self.inside in
    let s = state_in a.contents in
    let t = state_in c.set-before.new.self in
    let items = c.push_reserved.new.self.items in
    let ch : Change = change.Slot c.args.node c.set-before.result in
    let rest = c.set-before.ensures.rest in
    let within : c.args.node.number < parts s.tree = subst (λ (k : Kept). c.args.node.number < parts k.now.tree) (sym c.self.view_is) c.requires.within in
    let path : IsNode c.args.node.number s.tree = subst (λ (k : Kept). IsNode c.args.node.number k.now.tree) (sym c.self.view_is) c.requires.node in
    let is : t ≡ with_slot_at c.args.node.number c.args.slot s =
    alone_set a.own s c.args.node.number c.args.slot path.0 c.self.invariant.bound c.self.invariant.kept.differ path.1 t c.set-before.ensures.new
    (subst (λ (k : Kept). (p : Path) → place_of p (paths k.now.tree) ≡ Some c.args.node.number → is_in_contract p k.now.tree ≡ false) (sym c.self.view_is) c.requires.alone path.0 path.1) in
    seen_as (kept a) c.args.self.now (λ k. with_slot_at c.args.node.number c.args.slot k.now) t (rewound items t) c.set-before.new.self.ground.tree.stamps c.set-before.new.self.ground.tree.steps c.self.view_is is
    (before_as s t a.found.items items ch (slot_back s t c.args.node c.set-before.result c.args.slot within c.set-before.ensures.old c.set-before.ensures.new)
    (c.push_reserved.ensures.items ∙ ap (λ (l : List Change). l ++ ch ∷ []) c.reserve.ensures.items))
    rest.stamps rest.steps
