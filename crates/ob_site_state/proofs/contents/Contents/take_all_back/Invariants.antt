use Rattle.std.proofs.Common.{◌≡◌, vec_len}
use Rattle.ob_site_state.specs.Changes.{rewound, CanRewind}
use Rattle.ob_site_state.specs.Contents.{state_in, SameRest}
use Rattle.ob_site_state.proofs.contents.Contents.take_all_back.Given as goal

abbrev pub invariant-loop-change : goal.invariant-loop-change
invariant-loop-change l = record {
  can : CanRewind l.found.items (state_in l.self);
  rewinds : rewound l.found.items (state_in l.self) ≡ rewound l.fn.found.items (state_in l.fn.self);
  rest : SameRest l.fn.self l.self;
}

abbrev pub decreases-loop-change : goal.decreases-loop-change
decreases-loop-change l = vec_len l.found
