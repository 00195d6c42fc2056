use Rattle.std.proofs.Common.{◌≡◌, List, sym, ap, ◌∙◌, subst}
use Rattle.ob_site_rules.specs.Build.{Path}
use Rattle.ob_site_rules.specs.State.{Log, State, roll}
use Rattle.ob_site_state.specs.declared.change.Change.{Change}
use Rattle.ob_site_state.specs.Changes.{settled_all, rewound}
use Rattle.ob_site_state.specs.Contents.{state_in}
use Rattle.ob_site_state.specs.Kept.{IsConsistentState}
use Rattle.ob_site_state.specs.States.{kept}
use Rattle.ob_site_state.specs.Tallies.{IsTallied}
use Rattle.ob_site_state.proofs.Settling.{settles, committed, ended_as}
use Rattle.ob_site_state.proofs.Storing.{tallied_on}
use Rattle.ob_site_state.proofs.Rests.{roles_stay}
use Rattle.ob_site_state.specs.OwnContracts.{IsBound}
use Rattle.ob_site_state.proofs.OwnContracts.{bound_as}
use Rattle.ob_site_state.proofs.state.State.commit.Goals as goal

pub invariant_of-self : goal.invariant_of-self
invariant_of-self c =
    let a = c.self.inside in
    let s = state_in a.contents in
    let t = state_in c.settle.new.self in
    let rest = c.settle.ensures.rest in
    let is : t ≡ roll s =
    c.settle.ensures.new
    ∙ ap (λ (l : List Change). let x : State = record s { logs = settled_all l s.logs } in x) c.deref.ensures.value
    ∙ ap (λ (ls : List (Path × Log)). let x : State = record s { logs = ls } in x) (settles a.found.items s c.self.invariant.kept.rolled_before) in record {
      kept =
          subst (λ (l : List Change). IsConsistentState a.plan a.time t c.settle.new.self.board a.time l) (sym c.clear.ensures.items)
          (committed a.plan a.time s t a.contents.board c.settle.new.self.board a.since a.found.items c.self.invariant.kept rest.root rest.rules is);
      tallied =
          subst (λ (l : List Change). IsTallied (record a.tally { total_before = a.tally.total }) t.logs (rewound l t).logs) (sym c.clear.ensures.items)
          (tallied_on a.tally s.logs (rewound a.found.items s).logs t.logs (ap (λ (x : State). x.logs) is) c.self.invariant.tallied);
      growing = c.self.invariant.growing;
      roles = roles_stay a.plan a.contents c.settle.new.self rest.roles c.self.invariant.roles;
      bound = bound_as a.own s t (ap (λ (x : State). x.library) is) (ap (λ (x : State). x.tree) is) c.self.invariant.bound;
      bound_before =
          subst (λ (l : List Change). IsBound a.own (rewound l t)) (sym c.clear.ensures.items)
          (bound_as a.own s t (ap (λ (x : State). x.library) is) (ap (λ (x : State). x.tree) is) c.self.invariant.bound);
    }

pub returns : goal.returns
returns c =
    let a = c.self.inside in
    let s = state_in a.contents in
    let t = state_in c.settle.new.self in
    let rest = c.settle.ensures.rest in
    let is : t ≡ roll s =
    c.settle.ensures.new
    ∙ ap (λ (l : List Change). let x : State = record s { logs = settled_all l s.logs } in x) c.deref.ensures.value
    ∙ ap (λ (ls : List (Path × Log)). let x : State = record s { logs = ls } in x) (settles a.found.items s c.self.invariant.kept.rolled_before) in
    ended_as (kept a) c.args.self.now t (rewound c.clear.new.self.items t) c.settle.new.self.ground.tree.stamps c.settle.new.self.ground.tree.steps c.self.view_is is
    (ap (λ (l : List Change). rewound l t) c.clear.ensures.items) rest.stamps rest.steps
