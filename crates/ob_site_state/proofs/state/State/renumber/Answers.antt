use Rattle.std.proofs.Common.{sym, ap, subst}
use Rattle.ob_site_rules.specs.State.{State}
use Rattle.ob_site_state.specs.Changes.{rewound}
use Rattle.ob_site_state.specs.Contents.{state_in}
use Rattle.ob_site_state.specs.States.{kept}
use Rattle.ob_site_state.specs.Tallies.{IsTallied}
use Rattle.ob_site_state.proofs.Noting.{kept_same}
use Rattle.ob_site_state.proofs.Stepping.{renumbered_as}
use Rattle.ob_site_state.proofs.Rests.{roles_stay}
use Rattle.ob_site_state.specs.OwnContracts.{IsBound}
use Rattle.ob_site_state.proofs.state.State.renumber.Goals as goal

pub invariant_of-self : goal.invariant_of-self
invariant_of-self c =
    let a = c.self.inside in
    let s = state_in a.contents in
    let t = state_in c.renumber.new.self in
    let stays = c.renumber.ensures in record {
      kept = kept_same a.plan a.time s t a.contents.board c.renumber.new.self.board a.since a.found.items c.self.invariant.kept stays.root stays.rules stays.same;
      tallied = subst (λ (x : State). IsTallied a.tally x.logs (rewound a.found.items x).logs) (sym stays.same) c.self.invariant.tallied;
      growing = c.self.invariant.growing;
      roles = roles_stay a.plan a.contents c.renumber.new.self stays.roles c.self.invariant.roles;
      bound = subst (IsBound a.own) (sym stays.same) c.self.invariant.bound;
      bound_before = subst (λ (x : State). IsBound a.own (rewound a.found.items x)) (sym stays.same) c.self.invariant.bound_before;
    }

pub returns : goal.returns
returns c =
    let a = c.self.inside in
    let t = state_in c.renumber.new.self in
    let stays = c.renumber.ensures in
    renumbered_as (kept a) c.args.self.now t (rewound a.found.items t) c.renumber.new.self.ground.tree c.self.view_is
    stays.same (ap (rewound a.found.items) stays.same) stays.tree
