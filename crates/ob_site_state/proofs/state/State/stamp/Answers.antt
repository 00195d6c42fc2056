use Rattle.std.proofs.Common.{map, sym, ap, subst}
use Rattle.ob_site_rules.specs.State.{State}
use Rattle.ob_site_state.specs.Changes.{rewound}
use Rattle.ob_site_state.specs.Contents.{state_in}
use Rattle.ob_site_state.specs.States.{kept}
use Rattle.ob_site_state.specs.Tallies.{IsTallied}
use Rattle.ob_site_state.proofs.Noting.{kept_same}
use Rattle.ob_site_state.proofs.Stepping.{stamped_as}
use Rattle.ob_site_state.proofs.Rests.{roles_stay}
use Rattle.ob_site_state.specs.OwnContracts.{IsBound}
use Rattle.ob_site_state.proofs.state.State.stamp.Goals as goal

pub invariant_of-self : goal.invariant_of-self
invariant_of-self c =
    let a = c.self.inside in
    let s = state_in a.contents in
    let t = state_in c.stamp.new.self in
    let stays = c.stamp.ensures in record {
      kept = kept_same a.plan a.time s t a.contents.board c.stamp.new.self.board a.since a.found.items c.self.invariant.kept stays.root stays.rules stays.same;
      tallied = subst (λ (x : State). IsTallied a.tally x.logs (rewound a.found.items x).logs) (sym stays.same) c.self.invariant.tallied;
      growing = c.self.invariant.growing;
      roles = roles_stay a.plan a.contents c.stamp.new.self stays.roles c.self.invariant.roles;
      bound = subst (IsBound a.own) (sym stays.same) c.self.invariant.bound;
      bound_before = subst (λ (x : State). IsBound a.own (rewound a.found.items x)) (sym stays.same) c.self.invariant.bound_before;
    }

pub returns : goal.returns
returns c =
    let a = c.self.inside in
    let t = state_in c.stamp.new.self in
    let stays = c.stamp.ensures in
    stamped_as (kept a) c.args.self.now t (rewound a.found.items t) c.stamp.new.self.ground.tree (map (λ node. node.number) c.args.changed.now) c.self.view_is
    stays.same (ap (rewound a.found.items) stays.same) stays.tree
