use Rattle.std.proofs.Common.{◌≡◌, ◌<◌, List, length, Bool, ◌++◌, ◌∷◌, [], Some, IsTrue, refl, sym, ap, ◌∙◌, subst}
use Rattle.std.specs.Option.{IfSome}
use Rattle.ob_object.specs.declared.head.Head.{Head}
use Rattle.ob_object.specs.Fits.{fits_slot}
use Rattle.ob_object.specs.Object.{Object, parts}
use Rattle.ob_contracts.specs.Inherit.{Contracts}
use Rattle.ob_contracts.specs.Standard.{standard, with_added}
use Rattle.ob_contracts.specs.Renewing.{MayRenew}
use Rattle.ob_ground.specs.Grounds.{Grounded}
use Rattle.ob_tree.specs.Laid.{head_at}
use Rattle.ob_tree.specs.Trees.{Stamped}
use Rattle.ob_site_rules.specs.State.{State}
use Rattle.ob_site_rules.specs.Writes.{site_contracts}
use Rattle.ob_site_state.specs.declared.change.Change.{Change}
use Rattle.ob_site_state.specs.declared.change.Change.TheVariants as change
use Rattle.ob_site_state.specs.Changes.{rewound, CanRewind, IsNode}
use Rattle.ob_site_state.specs.Contents.{state_in}
use Rattle.ob_site_state.specs.Kept.{Kept, IsConsistentState, state_of}
use Rattle.ob_site_state.specs.OwnContracts.{AreWritten, HasNoted, IsBound, with_slot_at}
use Rattle.ob_site_state.specs.States.{kept}
use Rattle.ob_site_state.specs.Tallies.{IsTallied}
use Rattle.ob_site_state.proofs.Noting.{begun, seen_as, taken_back}
use Rattle.ob_site_state.proofs.Renewed.{can_renew, can_stand, can_tie, set_bound}
use Rattle.ob_site_state.proofs.Renoted.{note_back, note_kept, renewed_back, renewed_kept, set_kept, whatever_err}
use Rattle.ob_site_state.proofs.Rests.{roles_stay}
use Rattle.ob_site_state.proofs.Storing.{capacities-rewound, tallied_as, tallied_back}
use Rattle.ob_site_state.proofs.state.State.set_slot.Goals as goal

pub invariant_of-self-in_err-reserve : goal.invariant_of-self-in_err-reserve
invariant_of-self-in_err-reserve g c =
    let a = c.self.inside in
    let s = state_in a.contents in
    let f = a.found.items in
    let f1 = c.note_library.new.found.items in
    let note : HasNoted a.contents.ground f f1 = c.in_ok-note_library.ensures.ok in
    let back : rewound c.reserve.new.self.items s ≡ rewound f s =
    ap (λ (l : List Change). rewound l s) c.reserve.ensures.items ∙ note_back a.plan a.time s a.contents.board a.since f f1 a.contents.ground c.self.invariant.kept refl refl note in record {
      kept =
          subst (λ (l : List Change). IsConsistentState a.plan a.time s a.contents.board a.since l) (sym c.reserve.ensures.items)
          (note_kept a.plan a.time s a.contents.board a.since f f1 a.contents.ground c.self.invariant.kept refl refl note);
      tallied = tallied_as a.tally s.logs (rewound f s).logs s.logs (rewound c.reserve.new.self.items s).logs refl (ap (λ (x : State). x.logs) back) c.self.invariant.tallied;
      growing = c.self.invariant.growing;
      roles = c.self.invariant.roles;
      bound = c.self.invariant.bound;
      bound_before = subst (IsBound a.own) (sym back) c.self.invariant.bound_before;
    }

pub returns-in_err-reserve-clause-err : goal.returns-in_err-reserve-clause-err
returns-in_err-reserve-clause-err g c =
    let a = c.self.inside in
    let s = state_in a.contents in
    let f = a.found.items in
    let f1 = c.note_library.new.found.items in
    let note : HasNoted a.contents.ground f f1 = c.in_ok-note_library.ensures.ok in
    let back : rewound c.reserve.new.self.items s ≡ rewound f s =
    ap (λ (l : List Change). rewound l s) c.reserve.ensures.items ∙ note_back a.plan a.time s a.contents.board a.since f f1 a.contents.ground c.self.invariant.kept refl refl note in
    whatever_err c.from_residual-in_err-reserve.result _
    (seen_as (kept a) c.args.self.now (λ k. s) s (rewound c.reserve.new.self.items s) a.contents.ground.tree.stamps a.contents.ground.tree.steps c.self.view_is refl back refl refl)

pub renew-requires-clause-may : goal.renew-requires-clause-may
renew-requires-clause-may g c =
    let a = c.self.inside in
    let s = state_in a.contents in
    let t = state_in c.set-old.new.self in
    let n = c.args.node.number in
    let items = c.push_reserved.new.self.items in
    let ch : Change = change.Slot c.args.node c.set-old.result in
    let rest = c.set-old.ensures.rest in
    let within : n < parts s.tree = subst (λ (k : Kept). n < parts k.now.tree) (sym c.self.view_is) c.requires.within in
    let path : IsNode n s.tree = subst (λ (k : Kept). IsNode n k.now.tree) (sym c.self.view_is) c.requires.node in
    let fits = subst (λ (k : Kept). (h : Head) → head_at n k.now.tree ≡ Some h → IsTrue (fits_slot h.kind c.args.slot)) (sym c.self.view_is) c.requires.fits in
    let all : items ≡ c.note_library.new.found.items ++ ch ∷ [] = c.push_reserved.ensures.items ∙ ap (λ (l : List Change). l ++ ch ∷ []) c.reserve.ensures.items in
    let one = set_kept a.plan a.time s a.contents.board a.since a.found.items c.note_library.new.found.items a.contents.ground c.self.invariant.kept refl refl t t c.set-old.new.self.board items c.args.node c.set-old.result c.args.slot t.library c.in_ok-note_library.ensures.ok rest.root rest.rules path within fits c.set-old.ensures.old c.set-old.ensures.new all refl in
    let out = subst (λ o. IfSome o (λ written. AreWritten n s.tree a.own.nodes.items written.items)) c.in-Some.is c.in_ok-written.ensures.some in
    subst (λ (l : List Bool). MayRenew standard t.library (site_contracts t.tree) (length standard) l) (sym c.as_slice.ensures.value)
    (can_renew a.own s n c.args.slot path.0 c.self.invariant.bound c.self.invariant.kept.differ path.1 t.library t.tree (ap (λ (x : State). x.library) c.set-old.ensures.new) (ap (λ (x : State). x.tree) c.set-old.ensures.new) c.in-Some.written.items out one.sound.consistent.taken)

pub renew-requires-clause-tied : goal.renew-requires-clause-tied
renew-requires-clause-tied g c =
    let a = c.self.inside in
    let s = state_in a.contents in
    let t = state_in c.set-old.new.self in
    let n = c.args.node.number in
    let path : IsNode n s.tree = subst (λ (k : Kept). IsNode n k.now.tree) (sym c.self.view_is) c.requires.node in
    can_tie a.own s n c.args.slot path.0 c.self.invariant.bound c.self.invariant.kept.differ path.1 t.library t.tree (ap (λ (x : State). x.library) c.set-old.ensures.new) (ap (λ (x : State). x.tree) c.set-old.ensures.new)

pub renew-requires-clause-stand : goal.renew-requires-clause-stand
renew-requires-clause-stand g c =
    let a = c.self.inside in
    let s = state_in a.contents in
    let t = state_in c.set-old.new.self in
    let n = c.args.node.number in
    let path : IsNode n s.tree = subst (λ (k : Kept). IsNode n k.now.tree) (sym c.self.view_is) c.requires.node in
    can_stand a.own s n c.args.slot path.0 c.self.invariant.bound c.self.invariant.kept.differ path.1 t.library t.tree (ap (λ (x : State). x.library) c.set-old.ensures.new) (ap (λ (x : State). x.tree) c.set-old.ensures.new)

pub invariant_of-self-in-Ok : goal.invariant_of-self-in-Ok
invariant_of-self-in-Ok g c =
    let a = c.self.inside in
    let s = state_in a.contents in
    let t = state_in c.set-old.new.self in
    let n = c.args.node.number in
    let f = a.found.items in
    let items = c.push_reserved.new.self.items in
    let ch : Change = change.Slot c.args.node c.set-old.result in
    let rest = c.set-old.ensures.rest in
    let within : n < parts s.tree = subst (λ (k : Kept). n < parts k.now.tree) (sym c.self.view_is) c.requires.within in
    let path : IsNode n s.tree = subst (λ (k : Kept). IsNode n k.now.tree) (sym c.self.view_is) c.requires.node in
    let fits = subst (λ (k : Kept). (h : Head) → head_at n k.now.tree ≡ Some h → IsTrue (fits_slot h.kind c.args.slot)) (sym c.self.view_is) c.requires.fits in
    let all : items ≡ c.note_library.new.found.items ++ ch ∷ [] = c.push_reserved.ensures.items ∙ ap (λ (l : List Change). l ++ ch ∷ []) c.reserve.ensures.items in
    let u = state_of c.renew.new.ground.library c.renew.new.ground.tree.root c.set-old.new.self.logs.items c.set-old.new.self.board in
    let made : u ≡ record t { library = with_added standard (site_contracts t.tree) } = ap (λ (x : Grounded). state_of x.library x.tree.root c.set-old.new.self.logs.items c.set-old.new.self.board) c.in-Ok.ensures.ok in
    let is : u ≡ with_slot_at n c.args.slot s = made ∙ ap (λ (x : State). let y : State = record x { library = with_added standard (site_contracts x.tree) } in y) c.set-old.ensures.new in
    let back : rewound items u ≡ rewound f s =
    renewed_back a.plan a.time s a.contents.board a.since f c.note_library.new.found.items a.contents.ground c.self.invariant.kept refl refl t u c.set-old.new.self.board items c.args.node c.set-old.result c.args.slot (with_added standard (site_contracts t.tree)) c.in_ok-note_library.ensures.ok rest.root rest.rules path within fits c.set-old.ensures.old c.set-old.ensures.new all made in record {
      kept = renewed_kept a.plan a.time s a.contents.board a.since f c.note_library.new.found.items a.contents.ground c.self.invariant.kept refl refl t u c.set-old.new.self.board items c.args.node c.set-old.result c.args.slot (with_added standard (site_contracts t.tree)) c.in_ok-note_library.ensures.ok rest.root rest.rules path within fits c.set-old.ensures.old c.set-old.ensures.new all made;
      tallied = tallied_as a.tally s.logs (rewound f s).logs u.logs (rewound items u).logs (ap (λ (x : State). x.logs) is) (ap (λ (x : State). x.logs) back) c.self.invariant.tallied;
      growing = c.self.invariant.growing;
      roles = roles_stay a.plan a.contents c.set-old.new.self rest.roles c.self.invariant.roles;
      bound = set_bound a.own s n c.args.slot path.0 c.self.invariant.bound c.self.invariant.kept.differ path.1 u is;
      bound_before = subst (IsBound a.own) (sym back) c.self.invariant.bound_before;
    }

pub returns-in-Ok-clause-ok : goal.returns-in-Ok-clause-ok
returns-in-Ok-clause-ok g c =
    let a = c.self.inside in
    let s = state_in a.contents in
    let t = state_in c.set-old.new.self in
    let n = c.args.node.number in
    let f = a.found.items in
    let items = c.push_reserved.new.self.items in
    let ch : Change = change.Slot c.args.node c.set-old.result in
    let rest = c.set-old.ensures.rest in
    let within : n < parts s.tree = subst (λ (k : Kept). n < parts k.now.tree) (sym c.self.view_is) c.requires.within in
    let path : IsNode n s.tree = subst (λ (k : Kept). IsNode n k.now.tree) (sym c.self.view_is) c.requires.node in
    let fits = subst (λ (k : Kept). (h : Head) → head_at n k.now.tree ≡ Some h → IsTrue (fits_slot h.kind c.args.slot)) (sym c.self.view_is) c.requires.fits in
    let all : items ≡ c.note_library.new.found.items ++ ch ∷ [] = c.push_reserved.ensures.items ∙ ap (λ (l : List Change). l ++ ch ∷ []) c.reserve.ensures.items in
    let u = state_of c.renew.new.ground.library c.renew.new.ground.tree.root c.set-old.new.self.logs.items c.set-old.new.self.board in
    let made : u ≡ record t { library = with_added standard (site_contracts t.tree) } = ap (λ (x : Grounded). state_of x.library x.tree.root c.set-old.new.self.logs.items c.set-old.new.self.board) c.in-Ok.ensures.ok in
    let is : u ≡ with_slot_at n c.args.slot s = made ∙ ap (λ (x : State). let y : State = record x { library = with_added standard (site_contracts x.tree) } in y) c.set-old.ensures.new in
    let back : rewound items u ≡ rewound f s =
    renewed_back a.plan a.time s a.contents.board a.since f c.note_library.new.found.items a.contents.ground c.self.invariant.kept refl refl t u c.set-old.new.self.board items c.args.node c.set-old.result c.args.slot (with_added standard (site_contracts t.tree)) c.in_ok-note_library.ensures.ok rest.root rest.rules path within fits c.set-old.ensures.old c.set-old.ensures.new all made in
    seen_as (kept a) c.args.self.now (λ k. with_slot_at n c.args.slot k.now) u (rewound items u) c.renew.new.ground.tree.stamps c.renew.new.ground.tree.steps c.self.view_is is back
    (ap (λ (x : Stamped). x.stamps) c.in-Ok.ensures.tree ∙ rest.stamps) (ap (λ (x : Stamped). x.steps) c.in-Ok.ensures.tree ∙ rest.steps)

pub take_all_back-requires : goal.take_all_back-requires
take_all_back-requires g c =
    let a = c.self.inside in
    let s = state_in a.contents in
    let t = state_in c.set-old.new.self in
    let n = c.args.node.number in
    let f = a.found.items in
    let items = c.push_reserved.new.self.items in
    let ch : Change = change.Slot c.args.node c.set-old.result in
    let rest = c.set-old.ensures.rest in
    let within : n < parts s.tree = subst (λ (k : Kept). n < parts k.now.tree) (sym c.self.view_is) c.requires.within in
    let path : IsNode n s.tree = subst (λ (k : Kept). IsNode n k.now.tree) (sym c.self.view_is) c.requires.node in
    let fits = subst (λ (k : Kept). (h : Head) → head_at n k.now.tree ≡ Some h → IsTrue (fits_slot h.kind c.args.slot)) (sym c.self.view_is) c.requires.fits in
    let all : items ≡ c.note_library.new.found.items ++ ch ∷ [] = c.push_reserved.ensures.items ∙ ap (λ (l : List Change). l ++ ch ∷ []) c.reserve.ensures.items in
    let u = state_of c.renew.new.ground.library c.renew.new.ground.tree.root c.set-old.new.self.logs.items c.set-old.new.self.board in
    let made : u ≡ record t { library = c.renew.new.ground.library } = ap (λ (x : Stamped). state_of c.renew.new.ground.library x.root c.set-old.new.self.logs.items c.set-old.new.self.board) c.in-Err.ensures.tree in
    let one = renewed_kept a.plan a.time s a.contents.board a.since f c.note_library.new.found.items a.contents.ground c.self.invariant.kept refl refl t u c.set-old.new.self.board items c.args.node c.set-old.result c.args.slot c.renew.new.ground.library c.in_ok-note_library.ensures.ok rest.root rest.rules path within fits c.set-old.ensures.old c.set-old.ensures.new all made in one.can_rewind

pub invariant_of-self-in-Err : goal.invariant_of-self-in-Err
invariant_of-self-in-Err g c =
    let a = c.self.inside in
    let s = state_in a.contents in
    let t = state_in c.set-old.new.self in
    let n = c.args.node.number in
    let f = a.found.items in
    let items = c.push_reserved.new.self.items in
    let ch : Change = change.Slot c.args.node c.set-old.result in
    let rest = c.set-old.ensures.rest in
    let within : n < parts s.tree = subst (λ (k : Kept). n < parts k.now.tree) (sym c.self.view_is) c.requires.within in
    let path : IsNode n s.tree = subst (λ (k : Kept). IsNode n k.now.tree) (sym c.self.view_is) c.requires.node in
    let fits = subst (λ (k : Kept). (h : Head) → head_at n k.now.tree ≡ Some h → IsTrue (fits_slot h.kind c.args.slot)) (sym c.self.view_is) c.requires.fits in
    let all : items ≡ c.note_library.new.found.items ++ ch ∷ [] = c.push_reserved.ensures.items ∙ ap (λ (l : List Change). l ++ ch ∷ []) c.reserve.ensures.items in
    let u = state_of c.renew.new.ground.library c.renew.new.ground.tree.root c.set-old.new.self.logs.items c.set-old.new.self.board in
    let made : u ≡ record t { library = c.renew.new.ground.library } = ap (λ (x : Stamped). state_of c.renew.new.ground.library x.root c.set-old.new.self.logs.items c.set-old.new.self.board) c.in-Err.ensures.tree in
    let back : rewound items u ≡ rewound f s =
    renewed_back a.plan a.time s a.contents.board a.since f c.note_library.new.found.items a.contents.ground c.self.invariant.kept refl refl t u c.set-old.new.self.board items c.args.node c.set-old.result c.args.slot c.renew.new.ground.library c.in_ok-note_library.ensures.ok rest.root rest.rules path within fits c.set-old.ensures.old c.set-old.ensures.new all made in
    let one = renewed_kept a.plan a.time s a.contents.board a.since f c.note_library.new.found.items a.contents.ground c.self.invariant.kept refl refl t u c.set-old.new.self.board items c.args.node c.set-old.result c.args.slot c.renew.new.ground.library c.in_ok-note_library.ensures.ok rest.root rest.rules path within fits c.set-old.ensures.old c.set-old.ensures.new all made in
    let w = c.take_all_back.new.self in
    let v = state_in w in
    let gone = c.take_all_back.ensures.rest in
    let logs : u.logs ≡ s.logs = ap (λ (x : State). x.logs) made ∙ ap (λ (x : State). x.logs) c.set-old.ensures.new in
    let tallied = tallied_as a.tally s.logs (rewound f s).logs u.logs (rewound items u).logs logs (ap (λ (x : State). x.logs) back) c.self.invariant.tallied in
    let before = subst (IsBound a.own) (sym (c.take_all_back.ensures.new ∙ back)) c.self.invariant.bound_before in record {
      kept =
          subst (λ (l : List Change). IsConsistentState a.plan a.time v w.board a.since l) (sym c.take_all_back.ensures.none)
          (begun a.plan a.since a.time v w.board a.since [] (taken_back a.plan a.time u v c.set-old.new.self.board w.board a.since items one gone.root gone.rules c.take_all_back.ensures.new) c.self.invariant.kept.later);
      tallied =
          subst (λ (l : List Change). IsTallied (record a.tally { total = a.tally.total_before }) v.logs (rewound l v).logs) (sym c.take_all_back.ensures.none)
          (tallied_back a.tally u.logs (rewound items u).logs v.logs (ap (λ (x : State). x.logs) c.take_all_back.ensures.new) (capacities-rewound items u) tallied);
      growing = c.self.invariant.growing;
      roles = roles_stay a.plan c.set-old.new.self w gone.roles (roles_stay a.plan a.contents c.set-old.new.self rest.roles c.self.invariant.roles);
      bound = before;
      bound_before = subst (λ (l : List Change). IsBound a.own (rewound l v)) (sym c.take_all_back.ensures.none) before;
    }

pub returns-clause-err : goal.returns-clause-err
returns-clause-err g c =
    let a = c.self.inside in
    let s = state_in a.contents in
    let t = state_in c.set-old.new.self in
    let n = c.args.node.number in
    let f = a.found.items in
    let items = c.push_reserved.new.self.items in
    let ch : Change = change.Slot c.args.node c.set-old.result in
    let rest = c.set-old.ensures.rest in
    let within : n < parts s.tree = subst (λ (k : Kept). n < parts k.now.tree) (sym c.self.view_is) c.requires.within in
    let path : IsNode n s.tree = subst (λ (k : Kept). IsNode n k.now.tree) (sym c.self.view_is) c.requires.node in
    let fits = subst (λ (k : Kept). (h : Head) → head_at n k.now.tree ≡ Some h → IsTrue (fits_slot h.kind c.args.slot)) (sym c.self.view_is) c.requires.fits in
    let all : items ≡ c.note_library.new.found.items ++ ch ∷ [] = c.push_reserved.ensures.items ∙ ap (λ (l : List Change). l ++ ch ∷ []) c.reserve.ensures.items in
    let u = state_of c.renew.new.ground.library c.renew.new.ground.tree.root c.set-old.new.self.logs.items c.set-old.new.self.board in
    let made : u ≡ record t { library = c.renew.new.ground.library } = ap (λ (x : Stamped). state_of c.renew.new.ground.library x.root c.set-old.new.self.logs.items c.set-old.new.self.board) c.in-Err.ensures.tree in
    let back : rewound items u ≡ rewound f s =
    renewed_back a.plan a.time s a.contents.board a.since f c.note_library.new.found.items a.contents.ground c.self.invariant.kept refl refl t u c.set-old.new.self.board items c.args.node c.set-old.result c.args.slot c.renew.new.ground.library c.in_ok-note_library.ensures.ok rest.root rest.rules path within fits c.set-old.ensures.old c.set-old.ensures.new all made in
    let w = c.take_all_back.new.self in
    let v = state_in w in
    let gone = c.take_all_back.ensures.rest in
    seen_as (kept a) c.args.self.now (λ k. v) v (rewound c.take_all_back.new.found.items v) w.ground.tree.stamps w.ground.tree.steps c.self.view_is refl
    (ap (λ (l : List Change). rewound l v) c.take_all_back.ensures.none ∙ c.take_all_back.ensures.new ∙ back)
    (gone.stamps ∙ ap (λ (x : Stamped). x.stamps) c.in-Err.ensures.tree ∙ rest.stamps) (gone.steps ∙ ap (λ (x : Stamped). x.steps) c.in-Err.ensures.tree ∙ rest.steps)
