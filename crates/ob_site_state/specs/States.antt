-- A `State` as contracts see it.
use Rattle.std.specs.Prelude.{◌≡◌}
use Rattle.ob_site_rules.specs.Build.{Path}
use Rattle.ob_site_state.specs.Roles.{AreRoles}
use Rattle.ob_site_state.specs.declared.state.State.TheInside.{Inside}
use Rattle.ob_site_state.specs.Changes.{rewound}
use Rattle.ob_site_state.specs.Contents.{state_in}
use Rattle.ob_site_state.specs.Kept.{Kept, IsConsistentState}
use Rattle.ob_site_state.specs.OwnContracts.{IsBound}
use Rattle.ob_site_state.specs.Tallies.{count_at, growing_in, IsTallied}

abbrev pub kept : Inside → Kept
kept a = record {
  plan = a.plan;
  time = a.time;
  now = state_in a.contents;
  since = a.since;
  before = rewound a.found.items (state_in a.contents);
  stamps = a.contents.ground.tree.stamps;
  steps = a.contents.ground.tree.steps;
}

-- Its parts owe one another what `IsConsistentState` says, its tally is that of its logs and counts the plan's histories that keep all
-- their records, its roles are those of its plan, and its library is what its contracts make of the built-in one, now and before the step.
pub record IsState (a : Inside) : Type 0 where
  pub kept : IsConsistentState a.plan a.time (state_in a.contents) a.contents.board a.since a.found.items
  pub tallied : IsTallied a.tally (state_in a.contents).logs (rewound a.found.items (state_in a.contents)).logs
  pub growing : (p : Path) → count_at a.tally.growing p ≡ growing_in p a.plan.histories a.tally.capacities.items
  pub roles : AreRoles a.contents.roles a.plan
  pub bound : IsBound a.own (state_in a.contents)
  pub bound_before : IsBound a.own (rewound a.found.items (state_in a.contents))
