use Rattle.std.proofs.Common.{List, sym, ap, subst}
use Rattle.ob_site_rules.specs.State.{State}
use Rattle.ob_site_state.specs.declared.change.Change.{Change}
use Rattle.ob_site_state.specs.Changes.{rewound}
use Rattle.ob_site_state.specs.Contents.{state_in}
use Rattle.ob_site_state.specs.Kept.{IsConsistentState}
use Rattle.ob_site_state.specs.States.{kept}
use Rattle.ob_site_state.specs.Tallies.{IsTallied}
use Rattle.ob_site_state.proofs.Noting.{taken_back}
use Rattle.ob_site_state.proofs.Settling.{undone_as}
use Rattle.ob_site_state.proofs.Storing.{tallied_back, capacities-rewound}
use Rattle.ob_site_state.proofs.Rests.{roles_stay}
use Rattle.ob_site_state.specs.OwnContracts.{IsBound}
use Rattle.ob_site_state.proofs.state.State.undo.Goals as goal

pub invariant_of-self : goal.invariant_of-self
invariant_of-self c =
    let a = c.self.inside in
    let t = state_in c.take_all_back.new.self in
    let rest = c.take_all_back.ensures.rest in record {
      kept =
          subst (λ (l : List Change). IsConsistentState a.plan a.since t c.take_all_back.new.self.board a.since l) (sym c.take_all_back.ensures.none)
          (taken_back a.plan a.time (state_in a.contents) t a.contents.board c.take_all_back.new.self.board a.since a.found.items c.self.invariant.kept rest.root rest.rules c.take_all_back.ensures.new);
      tallied =
          subst (λ (l : List Change). IsTallied (record a.tally { total = a.tally.total_before }) t.logs (rewound l t).logs) (sym c.take_all_back.ensures.none)
          (tallied_back a.tally (state_in a.contents).logs (rewound a.found.items (state_in a.contents)).logs t.logs
          (ap (λ (x : State). x.logs) c.take_all_back.ensures.new) (capacities-rewound a.found.items (state_in a.contents)) c.self.invariant.tallied);
      growing = c.self.invariant.growing;
      roles = roles_stay a.plan a.contents c.take_all_back.new.self rest.roles c.self.invariant.roles;
      bound = subst (IsBound a.own) (sym c.take_all_back.ensures.new) c.self.invariant.bound_before;
      bound_before =
          subst (λ (l : List Change). IsBound a.own (rewound l t)) (sym c.take_all_back.ensures.none)
          (subst (IsBound a.own) (sym c.take_all_back.ensures.new) c.self.invariant.bound_before);
    }

pub returns : goal.returns
returns c =
    let a = c.self.inside in
    let t = state_in c.take_all_back.new.self in
    let rest = c.take_all_back.ensures.rest in
    undone_as (kept a) c.args.self.now t (rewound c.take_all_back.new.found.items t) c.take_all_back.new.self.ground.tree.stamps c.take_all_back.new.self.ground.tree.steps c.self.view_is c.take_all_back.ensures.new
    (ap (λ (l : List Change). rewound l t) c.take_all_back.ensures.none) rest.stamps rest.steps
